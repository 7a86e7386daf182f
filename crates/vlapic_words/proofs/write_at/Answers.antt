use Rattle.vlapic_words.proofs.Ways.{at_eoi, at_icr, at_self, at_rest}
use Rattle.vlapic_words.proofs.write_at.Goals as goal

pub returns-in-11 : goal.returns-in-11
returns-in-11 c = search at_eoi

pub returns-in-48 : goal.returns-in-48
returns-in-48 c = search at_icr

pub returns-in-63 : goal.returns-in-63
returns-in-63 c = search at_self

pub returns-in_default : goal.returns-in_default
returns-in_default c = let r = c.in_default.in_default-own.rest in at_rest _ _ _ _ _ _ c.requires _ _ r.0.0.1 r.0.1 r.1 c.write_register.ensures
