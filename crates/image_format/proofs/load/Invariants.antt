use Rattle.std.proofs.Common.{◌≡◌, ◌+◌, drop}
use Rattle.image_format.specs.Format.{bytes, format}
use Rattle.image_format.specs.Image.{loaded, words_in}
use Rattle.image_format.proofs.load.Given as goal

abbrev pub invariant-loop-row : goal.invariant-loop-row
invariant-loop-row l =
    (l.at + bytes (drop l.row-index format) ≡ 628)
    × (loaded (drop l.row-index format) l.image l.at l.words ≡ words_in l.image l.initial.words)
