use borrow.Author.Rules.{rules}
use Rattle.script_states.proofs.Texts.{chips_put, chips_end}
use Rattle.script_states.proofs.put_chips.Goals as goal

pub returns : goal.returns
returns c =
    let m = c.args.machine.now in record {
      puts = chips_put m.ioapic m.pic m.apic m.board_ioapic m.board_apic (search rules) (search rules) (search rules) (search rules) (search rules) c.requires c.put_words-end.ensures.puts c.put_words-end.ensures.upper_bound c.put_words-end-2.ensures.puts c.put_words-end-2.ensures.upper_bound c.put_words-end-3.ensures.puts c.put_words-end-3.ensures.upper_bound c.put_words-end-4.ensures.puts c.put_words-end-4.ensures.upper_bound c.put_words.ensures.puts c.put_words.ensures.upper_bound;
      upper_bound = chips_end m.ioapic m.pic m.apic m.board_ioapic m.board_apic (search rules) (search rules) (search rules) (search rules) (search rules) c.requires c.put_words-end.ensures.puts c.put_words-end.ensures.upper_bound c.put_words-end-2.ensures.puts c.put_words-end-2.ensures.upper_bound c.put_words-end-3.ensures.puts c.put_words-end-3.ensures.upper_bound c.put_words-end-4.ensures.puts c.put_words-end-4.ensures.upper_bound c.put_words.ensures.puts c.put_words.ensures.upper_bound;
    }
