use Rattle.vioapic.proofs.Ways.{write_low_word20, write_low_word, write_high_word, write_other}
use Rattle.vioapic.proofs.write_selected_register.Goals as goal

pub returns-then-is_version_20 : goal.returns-then-is_version_20
returns-then-is_version_20 c = search write_low_word20

pub returns-then-is_low : goal.returns-then-is_low
returns-then-is_low c = search write_low_word

pub returns-then-is_entry_word : goal.returns-then-is_entry_word
returns-then-is_entry_word c = search write_high_word

pub returns : goal.returns
returns c = search write_other
