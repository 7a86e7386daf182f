-- Lines of vectors in a buffer that has room for all of them. Assumes nothing.
use mathlib.Core.Path.{◌≡◌}
use mathlib.Core.List.{List}
use Prim.Native.Nat.{ℕ, ◌+◌, ◌*◌, ◌≤◌}
use native.Mathlib.Omega.{arith}
use lib.ListN.{length}
use Rattle.reply_text.specs.Text.{Puts, words_in_room, words_line}
use Rattle.script_states.proofs.Texts.{put_all_words}

pub list_put : {l m : List ℕ} {at end : ℕ} (w ws : List ℕ) → ws ≡ w → length w ≤ 64 → at + 1345 ≤ length l
    → Puts l at (words_in_room (length l) at ws) m end → end ≤ at + 21 * length ws + 1 → Puts l at (words_line w) m end × (end ≤ at + 1345)
list_put {l} {m} {at} {end} w ws e few room p h =
    let q : Puts l at (words_in_room (length l) at w) m end = rw e at p in
    let k : end ≤ at + 21 * length w + 1 = rw e at h in
    (put_all_words w (omega arith) q, omega (arith, k))

pub fits : {n end : ℕ} → n ≡ 5460 → end ≤ 5460 → end ≤ n
fits e h = omega (arith, e, h)
