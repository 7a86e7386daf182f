-- How saving ends. Assumes nothing.
use mathlib.Core.Path.{◌≡◌}
use mathlib.Core.List.{List}
use Prim.Native.Nat.{ℕ, ◌<◌, ◌≤◌}
use lib.ListN.{length}
use borrow.Author.Tests.{lt-ltb, le-ltb}
use Rattle.types.specs.Reply.{outcome_of}
use Rattle.types.specs.declared.Reply.TheVariants.{Refused, One}
use Rattle.types.specs.declared.Refusal.TheVariants.{TooShort}
use Rattle.image_format.specs.Image.{written_to}
use Rattle.image.specs.Words.{gathered}
use Rattle.image.specs.Save.{saved}

module _ (io apic pair buf : List ℕ) where
  pub saved_short : length buf < 628 → outcome_of buf (Refused TooShort) ≡ saved io apic pair buf
  unfolding saved
  saved_short h = rw (lt-ltb _ _ h)

  pub saved_whole : (words b : List ℕ) → 628 ≤ length buf → words ≡ gathered io apic pair → b ≡ written_to words buf → outcome_of b (One 628) ≡ saved io apic pair buf
  unfolding saved
  saved_whole words b h ew eb = rw (eb, le-ltb _ _ h, ew)
