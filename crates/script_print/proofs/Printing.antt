-- A buffer into which a script's lines are put, one behind the other: what it holds, what is left, and that there is room. Assumes nothing.
use mathlib.Core.Path.{◌≡◌, refl, sym, ap, ◌∙◌}
use mathlib.Core.Bool.{Bool, true, false, cond}
use mathlib.Core.List.{List, [], ◌++◌, append_assoc}
use Prim.Native.Nat.{ℕ, suc, ◌+◌, ◌-◌, ◌*◌, ◌≤◌, ◌<◌}
use native.Mathlib.Omega.{arith}
use lib.Dec.{leb}
use lib.ListN.{length}
use lib.Seq.{length-sets}
use borrow.Author.Tests.{lt-ltb, le-ltb, le-leb}
use Rattle.io.specs.Counts.{IsPrefixLen}
use Rattle.io.proofs.Counting.{prefix_len_of_le}
use Rattle.types.specs.declared.Reply.{Reply}
use Rattle.reply_text.specs.Text.{Puts, in_room, line, too_long_line}
use Rattle.reply_text.proofs.Puts.{then_put, put_as}
use Rattle.script_machine.specs.declared.Stop.{Stop}
use Rattle.script_machine.specs.Machine.{Machine, new_machine}
use Rattle.script_machine.specs.Run.{Step, did, stopped, step_of, Run, run_of}
use Rattle.script_machine.proofs.Runs.{further, further_none, run_did, run_stopped}
use Rattle.script_machine.proofs.Places.{did_lies}
use Rattle.script_print.specs.Printed.{stop_text, lines_from, printed_from, printed, machine_after}
use Rattle.script_print.proofs.Lines.{lines_did, lines_stopped}

-- a line for which there is room
pub put_all : (l : List ℕ) (at : ℕ) (vs m : List ℕ) (end : ℕ) → at + 80 ≤ length l → Puts l at (in_room (length l) at vs) m end → Puts l at vs m end
put_all l at vs m end h p = rw (le-leb (at + 80) (length l) h) at p

-- no line, which has room everywhere
pub put_nothing : (l : List ℕ) (at size : ℕ) → Puts l at (in_room size at []) l at
put_nothing l at size = go (leb (at + 80) size)
  where
    go : (b : Bool) → Puts l at (cond b [] []) l at
    go true = record { buffer = refl; end = omega arith }
    go false = record { buffer = refl; end = omega arith }

-- so far: what there is to print is what was put and what is left, and so is the run; three bytes were read for each line
pub record Printing (s : List ℕ) (before : List ℕ) (m₀ m : Machine) (at end : ℕ) (out : List ℕ) : Type 0 where
  pub text : List ℕ
  pub done : ℕ
  pub put : Puts before 0 text out end
  pub size : length out ≡ length before
  pub whole : lines_from s m₀ 0 ≡ text ++ lines_from s m at
  pub ran : run_of s m₀ 0 (suc (length s)) ≡ further done (run_of s m at (suc (length s) - done))
  pub spared : 3 * end ≤ 80 * at
  pub counted : 3 * done ≤ at
  pub within : at ≤ length s

pub printing_none : (s before : List ℕ) (m : Machine) → Printing s before m m 0 0 before
printing_none s before m = record {
  text = [];
  done = 0;
  put = record { buffer = refl; end = refl };
  size = refl;
  whole = refl;
  ran = let z : suc (length s) - 0 ≡ suc (length s) = omega arith in rw z (further_none (run_of s m 0 (suc (length s))));
  spared = omega arith;
  counted = omega arith;
  within = omega arith;
}

module _ (s before : List ℕ) (m₀ m : Machine) (at end : ℕ) (out : List ℕ) (short : length s ≤ 65536) (large : 1747760 ≤ length before) (f : Printing s before m₀ m at end out) where
  room : end + 80 ≤ length out
  room = omega (arith, f.spared, f.within, f.size)

  pub printing_did : (x : Step) (tag : ℕ) (r : Reply) (out' : List ℕ) (end' : ℕ) → x ≡ step_of s m at → x.said ≡ did tag r
      → Puts out end (in_room (length out) end (line tag r)) out' end' → end' ≤ end + 80 → Printing s before m₀ x.machine x.next.at end' out'
  printing_did x tag r out' end' g h p b =
      let l = did_lies s m at x tag r g h in
      record {
        text = f.text ++ line tag r;
        done = f.done + 1;
        put = then_put f.put (put_all out end (line tag r) out' end' room p);
        size = ap length p.buffer ∙ length-sets out end (in_room (length out) end (line tag r)) ∙ f.size;
        whole = f.whole ∙ rw (lines_did s m at x tag r g h) (sym (append_assoc f.text (line tag r) _));
        ran = f.ran ∙ run_did s m at f.done (suc (length s) - f.done) (suc (length s) - (f.done + 1)) (omega (arith, f.counted, f.within)) x tag r g h;
        spared = omega (arith, f.spared, l);
        counted = omega (arith, f.counted, l);
        within = l.1;
      }

  pub printed_stopped : (x : Step) (why : Stop) (out' : List ℕ) (end' : ℕ) → x ≡ step_of s m at → x.said ≡ stopped why
      → Puts out end (in_room (length out) end (stop_text why x.next.at)) out' end' → Puts before 0 (lines_from s m₀ 0) out' end'
  printed_stopped x why out' end' g h p =
      put_as (sym (f.whole ∙ rw (lines_stopped s m at x why g h)))
      (then_put f.put (put_all out end (stop_text why x.next.at) out' end' room p))

  pub ran_stopped : (x : Step) (why : Stop) → x ≡ step_of s m at → x.said ≡ stopped why → x.machine ≡ (run_of s m₀ 0 (suc (length s))).machine
  ran_stopped x why g h =
      ap (λ (r : Run). r.machine)
      (sym (f.ran ∙ run_stopped s m at f.done (suc (length s) - f.done) (suc (length s) - (f.done + 1)) (omega (arith, f.counted, f.within)) x why g h))

  pub printed_fits : (end' : ℕ) → end' ≤ end + 80 → end' ≤ 1747760
  printed_fits end' h = omega (arith, f.spared, f.within)

-- the whole, of a script that is short enough and of one that isn't
pub printed_lines : (s before out : List ℕ) (m : Machine) (end : ℕ) → length s ≤ 65536 → Puts before 0 (lines_from s m 0) out end → Puts before 0 (printed_from s m) out end
printed_lines s before out m end h p = rw (le-ltb 65536 (length s) h) p

pub printed_long : (s before out : List ℕ) (m : Machine) (end : ℕ) → 65536 < length s → 80 ≤ length before → Puts before 0 (in_room (length before) 0 too_long_line) out end → Puts before 0 (printed_from s m) out end
printed_long s before out m end h n p = rw (lt-ltb 65536 (length s) h) (put_all before 0 too_long_line out end (omega arith) p)

pub after_lines : (s : List ℕ) (m after : Machine) → length s ≤ 65536 → after ≡ (run_of s m 0 (suc (length s))).machine → after ≡ machine_after s m
after_lines s m after h e = rw (le-ltb 65536 (length s) h) e

pub after_long : (s : List ℕ) (m : Machine) → 65536 < length s → m ≡ machine_after s m
after_long s m h = rw (lt-ltb 65536 (length s) h) refl

-- on a new machine
pub printed_new : (s before out : List ℕ) (m : Machine) (end : ℕ) → m ≡ new_machine → Puts before 0 (printed_from s m) out end → Puts before 0 (printed s) out end
unfolding printed
printed_new s before out m end e p = rw (← e) p

-- what was put stands at the buffer's start, all of it
pub put_counts : (before vs out : List ℕ) (end : ℕ) → Puts before 0 vs out end → end ≤ length before → IsPrefixLen end out
put_counts before vs out end p h = prefix_len_of_le end out (omega (arith, ap length p.buffer ∙ length-sets before 0 vs))
