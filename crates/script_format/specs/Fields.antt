-- What stands at a place of a script: a field (tag, length, body), a bad one, or the script's end.
use Rattle.std.specs.Prelude.{ℕ, ◌+◌, cond, List, leb, ltb, length, get_or, take, drop, Option, Some, None, Result, Ok, Err}
use Rattle.script_format.specs.declared.BadField.{BadField}
use Rattle.script_format.specs.declared.Call.{Call}
use Rattle.script_format.specs.declared.Cursor.{Cursor}
use Rattle.script_format.specs.declared.Field.{Field}
use Rattle.script_format.specs.Format.{number_at, decoded}

-- the length that the field at a place says, in the two bytes after its tag
abbrev pub length_at : List ℕ → ℕ → ℕ
length_at s at = number_at s (at + 1) 2

-- and where it ends
abbrev pub end_at : List ℕ → ℕ → ℕ
end_at s at = at + 3 + length_at s at

abbrev pub body_at : List ℕ → ℕ → List ℕ
body_at s at = take (length_at s at) (drop (at + 3) s)

-- what stands there: a good field, a bad one, or nothing
abbrev pub Good : {C : Type 0} → ℕ → C → Cursor → Result (Option (Field C)) BadField
Good tag call next = Ok (Some (record { tag = tag; call = call; next = next }))

abbrev pub Bad : {C : Type 0} → Result (Option (Field C)) BadField
Bad = Err (record {})

abbrev pub End : {C : Type 0} → Result (Option (Field C)) BadField
End = Ok None

abbrev pub field_of : {C : Type 0} → ℕ → Option C → ℕ → Result (Option (Field C)) BadField
field_of tag (Some call) next = Good tag call (record { at = next })
field_of tag None next = Bad

-- at the end or past it there is no field; a field whose header or body is cut off is bad, and so is one that the table doesn't know
unfoldable pub field_at : List ℕ → ℕ → Result (Option (Field Call)) BadField
field_at s at =
    cond (leb (length s) at) End
    (cond (ltb (length s) (at + 3)) Bad
    (cond (ltb (length s) (end_at s at)) Bad
    (field_of (get_or s at 0) (decoded (get_or s at 0) (body_at s at)) (end_at s at))))
