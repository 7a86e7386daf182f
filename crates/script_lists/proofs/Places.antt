-- What stands at a place, for each way that the reader returns. Assumes nothing.
use mathlib.Core.Path.{◌≡◌}
use mathlib.Core.List.{List}
use Prim.Native.Nat.{ℕ, ◌+◌, ◌-◌, ◌≤◌, ◌<◌}
use native.Mathlib.Omega.{arith}
use lib.ListN.{length, get_or, take, drop, get_or-eq_default}
use borrow.Author.Tests.{lt-ltb, le-ltb}
use Rattle.script_format.specs.Fields.{Bad, length_at, end_at, field_of}
use Rattle.std.specs.Prelude.{Option, Result}
use Rattle.script_format.specs.declared.BadField.{BadField}
use Rattle.script_format.specs.declared.Field.{Field}
use Rattle.script_lists.specs.declared.ListCall.{ListCall}
use Rattle.script_lists.specs.Fields.{Other, decoded, list_field_at}

module _ (s : List ℕ) (at : ℕ) where
  pub ended : length s ≤ at → Other ≡ list_field_at s at
  unfolding list_field_at
  ended h = rw (get_or-eq_default {A = ℕ} s 0 h)

  pub machines : get_or s at 0 < 0x40 → Other ≡ list_field_at s at
  unfolding list_field_at
  machines h = rw (lt-ltb (get_or s at 0) 0x40 h)

  module _ (t : 0x40 ≤ get_or s at 0) (h : at < length s) where
    pub no_header : length s - at < 3 → Bad ≡ list_field_at s at
    unfolding list_field_at
    no_header k = rw (le-ltb (get_or s at 0) 0x40 t, lt-ltb (length s) (at + 3) (omega arith))

    module _ (k : 3 ≤ length s - at) (n : ℕ) (e : n ≡ length_at s at) where
      pub cut_off : length s - (at + 3) < n → Bad ≡ list_field_at s at
      unfolding list_field_at
      cut_off c = rw (le-ltb (get_or s at 0) 0x40 t, le-ltb (length s) (at + 3) (omega arith), lt-ltb (length s) (end_at s at) (omega arith))

      pub whole : (b : Option ListCall) (f : Result (Option (Field ListCall)) BadField) → n ≤ length s - (at + 3)
          → b ≡ decoded (get_or s at 0) (take (at + 3 + n - (at + 3)) (drop (at + 3) s))
          → f ≡ field_of (get_or s at 0) b (at + 3 + n)
          → f ≡ list_field_at s at
      unfolding list_field_at
      whole b f w p q =
          let z : at + 3 + n - (at + 3) ≡ length_at s at = omega arith in
          rw (le-ltb (get_or s at 0) 0x40 t, le-ltb (length s) (at + 3) (omega arith), le-ltb (length s) (end_at s at) (omega arith), ← rw z at p, ← e) q
