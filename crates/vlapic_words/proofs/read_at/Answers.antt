use native.Mathlib.Omega.{arith}
use mathlib.Core.List.{[]}
use Rattle.vlapic.proofs.Offsets.{onto, apart}
use Rattle.vlapic_words.proofs.Ways.{read_keys, from_13, read_vectors, read_none}
use Rattle.vlapic_words.proofs.read_at.Goals as goal

pub returns-in-16-to-31 : goal.returns-in-16-to-31
returns-in-16-to-31 c = rw c.low-in-16-to-31.ensures (read_vectors _ _ (from_13 _ c.in-16-to-31.if-at-lt13-own.false c.in-16-to-31.in_default-own.rest.0.0.0.0.0.0.0.0.0.0.0.0.1 c.in-16-to-31.in_default-own.rest.0.0.0.0.0.0.0.0.0.0.0.1 c.in-16-to-31.in_default-own.rest.0.0.0.0.0.0.0.0.0.0.1) c.in-16-to-31.if-at-lt32-own.true)

pub returns-in_default : goal.returns-in_default
returns-in_default c = read_none _ _ (λ a b. omega arith) (apart _ (onto read_keys []) [] c.in_default.in_default-own.rest tt)

pub returns-in_default-2 : goal.returns-in_default-2
returns-in_default-2 c = read_none _ _ (λ a b. omega arith) (apart _ (onto read_keys []) [] c.in_default.in_default-own.rest tt)
