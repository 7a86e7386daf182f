-- A run from where it starts, and its image. Assumes nothing.
use Prim.Native.Nat.{ℕ, ◌<◌, ◌≤◌}
use mathlib.Core.Bool.{Bool, true, false, cond}
use mathlib.Core.List.{List, [], ◌∷◌, append-nil}
use mathlib.Core.Path.{◌≡◌, refl, ap, ◌∙◌}
use native.Mathlib.Omega.{arith}
use lib.Dec.{ltb, eqb}
use lib.ListN.{length, drop, get_or}
use lib.Seq.{drop-length}
use borrow.Author.Tests.{lt-ltb, le-ltb}
use Rattle.io.specs.Counts.{IsPrefixLen}
use Rattle.io.proofs.Counting.{prefix_len_of_le}
use Rattle.std.specs.Prelude.{Result, Ok, Err}
use Rattle.types.specs.declared.Refusal.{Refusal}
use Rattle.types.specs.declared.Refusal.TheVariants.{BadImage}
use Rattle.types.specs.Reply.{Outcome, outcome_of}
use Rattle.image_format.proofs.Rounds.{image_length}
use Rattle.image_format.specs.Image.{image_of}
use Rattle.image.specs.Words.{gathered}
use Rattle.image.specs.Save.{save_reply, saved}
use Rattle.reply_text.specs.Text.{Puts}
use Rattle.script_machine.specs.Machine.{Machine}
use Rattle.script_print.specs.Printed.{printed_from, machine_after}
use Rattle.script_resume.specs.Resumed.{is_start, started, start_of, head_size}

pub started_ok : (s : List ℕ) (u : Unit {0}) → Ok u ≡ started s → is_start s ≡ true
started_ok s u e = go (is_start s) e
  where
    go : (b : Bool) → Ok u ≡ cond b (Ok (tt {0})) (Err BadImage) → b ≡ true
    go true p = refl
    go false p = let z : ◌≡◌ {A = ℕ} 0 1 = cc in absurd (omega arith)

pub started_err : (s : List ℕ) (why : Refusal) → Err why ≡ started s → (is_start s ≡ false) × (why ≡ BadImage)
started_err s why e = go (is_start s) e
  where
    go : (b : Bool) → Err why ≡ cond b (Ok (tt {0})) (Err BadImage) → (b ≡ false) × (why ≡ BadImage)
    go true p = let z : ◌≡◌ {A = ℕ} 0 1 = cc in absurd (omega arith)
    go false p = (refl, cc)

pub printed_from_start : (image script text text' : List ℕ) (m : Machine) (end : ℕ) → m ≡ start_of image → Puts text 0 (printed_from script m) text' end → Puts text 0 (printed_from script (start_of image)) text' end
printed_from_start image script text text' m end e p = rw (← e) p

pub left_from_start : (image script : List ℕ) (m last : Machine) → m ≡ start_of image → last ≡ machine_after script m → last ≡ machine_after script (start_of image)
left_from_start image script m last e p = rw (← e) p

-- an image that fills its buffer
pub saved_all : (io apic pair buf after : List ℕ) (a : Result ℕ Refusal) → length buf ≡ 628 → outcome_of after (save_reply a) ≡ saved io apic pair buf → after ≡ image_of (gathered io apic pair)
unfolding saved
saved_all io apic pair buf after a n h =
    let z : drop 628 buf ≡ [] = rw (← n) (drop-length buf) in
    let l : ltb (length buf) 628 ≡ false = le-ltb (length buf) 628 (omega (arith, n)) in
    ap (λ (o : Outcome (List ℕ)). o.state) h ∙ rw l (rw z (append-nil (image_of (gathered io apic pair))))

pub saved_counts : (io apic pair after : List ℕ) → after ≡ image_of (gathered io apic pair) → IsPrefixLen 628 after
saved_counts io apic pair after e = prefix_len_of_le 628 after (let z : length after ≡ 628 = ap length e ∙ image_length (gathered io apic pair) in omega (arith, z))

-- how many bytes are an image
module _ (s : List ℕ) where
  pub head_empty : length s ≡ 0 → 0 ≡ head_size s
  head_empty n = go s n
    where
      go : (l : List ℕ) → length l ≡ 0 → 0 ≡ head_size l
      go [] e = refl
      go (x ∷ l) e = absurd (omega (arith, e))

  pub head_none : eqb (get_or s 0 0) 0x80 ≡ false → 0 ≡ head_size s
  head_none e = rw e

  pub head_short : eqb (get_or s 0 0) 0x80 ≡ true → length s < 628 → length s ≡ head_size s
  head_short e h = rw (e, lt-ltb (length s) 628 h)

  pub head_whole : eqb (get_or s 0 0) 0x80 ≡ true → 628 ≤ length s → 628 ≡ head_size s
  head_whole e h = rw (e, le-ltb (length s) 628 h)
