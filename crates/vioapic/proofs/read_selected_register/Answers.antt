use Rattle.vioapic.proofs.Ways.{read_high_word, read_low_word, read_other}
use Rattle.vioapic.proofs.read_selected_register.Goals as goal

pub returns-then-is_low : goal.returns-then-is_low
returns-then-is_low c = search read_low_word

pub returns-then-is_entry_word : goal.returns-then-is_entry_word
returns-then-is_entry_word c = search read_high_word

pub returns : goal.returns
returns c = search read_other
