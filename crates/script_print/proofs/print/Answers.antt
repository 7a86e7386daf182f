use Rattle.script_print.proofs.Printing.{printed_new}
use Rattle.script_print.proofs.print.Goals as goal

pub returns : goal.returns
returns c =
    let p = c.print_from.ensures in
    record {
      puts = printed_new c.args.script.now _ _ _ _ c.new.ensures p.puts;
      prefix_len = p.prefix_len;
    }
