use Rattle.std.proofs.Common.{◌≡◌, ℕ, Option, Some, None, refl, ◌∙◌, length}
use Rattle.std.specs.Option.{option_eq}
use Rattle.image_format.specs.Reading.{place, is_whole, field_from, is_read}
use Rattle.image_format.specs.declared.Place.{Place}
use Rattle.image_format.specs.contracts.PlacePartialEq.TheImpl.{eq-value}
use Rattle.image_format.proofs.is_read.Goals as goal

whole : (o : Option Place) (n : ℕ) → option_eq eq-value.it o (place n 80) ≡ is_whole o n
whole None n = refl
whole (Some p) n = refl

pub returns : goal.returns
unfolding is_read
returns c = c.eq.ensures ∙ rw c.first.ensures (whole (field_from c.args.image.now 0 0) (length c.args.image.now))
