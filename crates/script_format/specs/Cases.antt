-- Fields at the borders of what is good, computed.
use Rattle.std.specs.Prelude.{[], ◌∷◌, ◌≡◌, refl, Some, None}
use Rattle.vpic.specs.declared.PicRule.TheVariants.{Full}
use Rattle.script_format.specs.declared.Call.TheVariants.{PicRule}
use Rattle.script_format.specs.Format.{number_at, decoded}
use Rattle.script_format.specs.Fields.{Bad, field_at}

-- there is no version 0x12, and no rule 3; rule 2 is the full profile
pub no_version : decoded 0x06 (0x12 ∷ []) ≡ None
unfolding decoded number_at
no_version = refl

pub no_rule : decoded 0x16 (3 ∷ []) ≡ None
unfolding decoded number_at
no_rule = refl

pub full_rule : decoded 0x16 (2 ∷ []) ≡ Some (PicRule Full)
unfolding decoded number_at
full_rule = refl

-- a claim whose line is cut off
pub cut_off : field_at (0x12 ∷ 1 ∷ 0 ∷ []) 0 ≡ Bad
unfolding field_at decoded number_at
cut_off = refl
