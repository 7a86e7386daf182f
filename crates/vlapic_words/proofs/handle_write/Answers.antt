use Rattle.vlapic_words.proofs.Ways.{write_range, in_range_is, write_odd}
use Rattle.vlapic_words.proofs.handle_write.Goals as goal

pub returns-then-is_out_of_range : goal.returns-then-is_out_of_range
returns-then-is_out_of_range c = search write_range

pub write_at-requires : goal.write_at-requires
write_at-requires c = search in_range_is

pub returns : goal.returns
returns c = search write_odd
