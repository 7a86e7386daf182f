-- What stands at a place, for each way that the reader returns. Assumes nothing.
use mathlib.Core.Path.{◌≡◌}
use mathlib.Core.List.{List}
use Prim.Native.Nat.{ℕ, ◌+◌, ◌-◌, ◌≤◌, ◌<◌}
use native.Mathlib.Omega.{arith}
use lib.ListN.{length, get_or, take, drop}
use borrow.Author.Tests.{le-leb, lt-leb, lt-ltb, le-ltb}
use Rattle.std.specs.Prelude.{Option, Result}
use Rattle.script_format.specs.declared.BadField.{BadField}
use Rattle.script_format.specs.declared.Call.{Call}
use Rattle.script_format.specs.declared.Field.{Field}
use Rattle.script_format.specs.Format.{decoded}
use Rattle.script_format.specs.Fields.{length_at, end_at, Bad, End, field_of, field_at}

module _ (s : List ℕ) (at : ℕ) where
  pub ended : length s ≤ at → End ≡ field_at s at
  unfolding field_at
  ended h = rw (le-leb (length s) at h)

  pub no_header : at < length s → length s - at < 3 → Bad ≡ field_at s at
  unfolding field_at
  no_header h k = rw (lt-leb (length s) at h, lt-ltb (length s) (at + 3) (omega arith))

  module _ (h : at < length s) (k : 3 ≤ length s - at) (n : ℕ) (e : n ≡ length_at s at) where
    pub cut_off : length s - (at + 3) < n → Bad ≡ field_at s at
    unfolding field_at
    cut_off c =
        rw (lt-leb (length s) at h, le-ltb (length s) (at + 3) (omega arith), lt-ltb (length s) (end_at s at) (omega arith))

    pub whole : (b : Option Call) (f : Result (Option (Field Call)) BadField) → n ≤ length s - (at + 3)
        → b ≡ decoded (get_or s at 0) (take (at + 3 + n - (at + 3)) (drop (at + 3) s))
        → f ≡ field_of (get_or s at 0) b (at + 3 + n)
        → f ≡ field_at s at
    unfolding field_at
    whole b f w p q =
        let z : at + 3 + n - (at + 3) ≡ length_at s at = omega arith in
        rw (lt-leb (length s) at h, le-ltb (length s) (at + 3) (omega arith), le-ltb (length s) (end_at s at) (omega arith), ← rw z at p, ← e) q
