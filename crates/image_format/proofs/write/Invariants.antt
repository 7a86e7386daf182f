use Rattle.std.proofs.Common.{◌≡◌, ◌+◌, drop}
use Rattle.std.proofs.lemmas.List.Edits.{sets}
use Rattle.image_format.specs.Format.{bytes, format}
use Rattle.image_format.specs.Image.{written, image_of}
use Rattle.image_format.proofs.write.Given as goal

abbrev pub invariant-loop-row : goal.invariant-loop-row
invariant-loop-row l =
    (l.at + bytes (drop l.row-index format) ≡ 628)
    × (sets l.buf l.at (written (drop l.row-index format) l.words) ≡ sets l.initial.buf 0 (image_of l.words))
