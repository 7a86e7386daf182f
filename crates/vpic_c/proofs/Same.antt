-- What is shown loses nothing: equal pairs and codes come from equal outcomes, the pair's replies fit their codes, and a refused new pair leaves the words. Assumes nothing.
use Rattle.std.proofs.Common.{Option, Some, None}
use mathlib.Core.Path.{◌≡◌, refl, ap, ◌∙◌}
use mathlib.Core.Bool.{Bool, true, false, cond}
use mathlib.Core.List.{List}
use Prim.Native.Nat.{ℕ, ◌+◌, ◌*◌, ◌^◌, ◌<◌}
use native.Mathlib.Omega.{arith}
use lib.Dec.{ltb}
use lib.ListN.{get_or}
use borrow.Author.Tests.{ltb-true}
use Rattle.utils.specs.Set.{bit}
use Rattle.utils.proofs.Bools.{both}
use Rattle.types.specs.declared.PicPlace.{PicPlace}
use Rattle.types.specs.declared.PicPlace.TheVariants.{Master, Slave}
use Rattle.types.specs.declared.Refusal.TheVariants.{Unsupported}
use Rattle.types.specs.Reply.{Outcome, flag, reply_number}
use Rattle.reply_code.specs.Lent.{Fits}
use Rattle.reply_code.proofs.Codes.{code_same}
use Rattle.vpic_chip.specs.Registers.{Chip, chip_in}
use Rattle.vpic_chip.specs.Chip.{acknowledged, command_read, vector_reply, pending_line, asks, is_polled, poll_shown, read_shown}
use Rattle.vpic.specs.Words.{PicState, is_full, chip_by, view}
use Rattle.vpic.specs.Pair.{rule_in, is_rule, refused, grew, pending_place, claim_at, claim_pending, master_claim, slave_claim, claim_reply, claim_vector, value_reply, Port, master_command, master_data, slave_command, slave_data, no_port, port_at, read_from, port_read}
use Rattle.vpic.proofs.Ready.{Ready, pending_ready}
use Rattle.vpic.proofs.Codes.{words_same}
use Rattle.vpic_c.specs.Calls.{Coded, coded, made, RefusedNewKeepsWords}

pub coded_same : (a b : Outcome PicState) → Fits a.reply → Fits b.reply → coded a ≡ coded b → a ≡ b
coded_same a b f g e =
    let s : a.state ≡ b.state = ap (λ (x : Coded). x.state) e in
    let r : a.reply ≡ b.reply = code_same a.reply b.reply f g (ap (λ (x : Coded). x.code) e) in
    λ i. record { state = s i; reply = r i }

flags_lt : (m s : Bool) → flag m + 2 * flag s < 2 ^ 16
flags_lt true true = omega arith
flags_lt true false = omega arith
flags_lt false true = omega arith
flags_lt false false = omega arith

pub fits_claim : (p : PicState) → Fits (claim_reply (claim_pending p).claim)
unfolding claim_pending master_claim slave_claim
fits_claim p = go (pending_place p) (pending_ready p)
  where
    go : (x : Option PicPlace) → Ready p x → Fits (claim_reply (claim_at p x).claim)
    go (Some (Master k)) r = (omega arith, omega (arith, r.low), flags_lt (grew p.master (acknowledged p.master k.0)) (grew p.slave p.slave))
    go (Some (Slave k)) r =
        (omega arith, omega (arith, r.1.low), flags_lt (grew p.master (acknowledged p.master 2)) (grew p.slave (acknowledged p.slave k.0)))
    go None r = tt

pub fits_vector : (p : PicState) → Fits (vector_reply (claim_vector (claim_pending p).claim))
unfolding claim_pending master_claim slave_claim
fits_vector p = go (pending_place p)
  where
    go : (x : Option PicPlace) → Fits (vector_reply (claim_vector (claim_at p x).claim))
    go (Some (Master k)) = omega arith
    go (Some (Slave k)) = omega arith
    go None = tt

command_lt : (w : ℕ) → command_read (chip_in w) < 2 ^ 32
unfolding command_read chip_in
command_lt w = both (λ (n : ℕ). n < 2 ^ 32) (bit w 43) _ _ (omega arith) (omega arith)

mask_lt : (w : ℕ) → (chip_in w).mask < 2 ^ 32
unfolding chip_in
mask_lt w = omega arith

-- so it is of a chip by the pair's rule
command_by : (place : Bool) (rule w : ℕ) → command_read (chip_by place rule w) < 2 ^ 32
unfolding command_read
command_by place rule w = both (λ (c : Chip). command_read c < 2 ^ 32) (is_full rule) _ _ (command_lt w) (command_lt w)

mask_by : (place : Bool) (rule w : ℕ) → (chip_by place rule w).mask < 2 ^ 32
mask_by place rule w = both (λ (c : Chip). c.mask < 2 ^ 32) (is_full rule) _ _ (mask_lt w) (mask_lt w)

-- and what a poll shows
poll_lt : (c : Chip) → poll_shown c < 2 ^ 32
unfolding poll_shown asks
poll_lt c = go (ltb (pending_line c) 8) refl
  where
    go : (b : Bool) → ltb (pending_line c) 8 ≡ b → cond b (0x80 + pending_line c) 0 < 2 ^ 32
    go true e = omega (arith, ltb-true (pending_line c) 8 e)
    go false e = omega arith

shown_lt : (c : Chip) (n : ℕ) → n < 2 ^ 32 → read_shown c n < 2 ^ 32
unfolding read_shown
shown_lt c n h = both (λ (m : ℕ). m < 2 ^ 32) (is_polled c) _ _ (poll_lt c) h

pub fits_value : (l : List ℕ) (port : ℕ) → Fits (value_reply (port_read (view l) port))
unfolding port_read view
fits_value l port = go (port_at port)
  where
    go : (a : Port) → Fits (value_reply (read_from (view l) a))
    go master_command = shown_lt (view l).master _ (command_by true (get_or l 2 0) (get_or l 0 0))
    go master_data = shown_lt (view l).master _ (mask_by true (get_or l 2 0) (get_or l 0 0))
    go slave_command = shown_lt (view l).slave _ (command_by false (get_or l 2 0) (get_or l 1 0))
    go slave_data = shown_lt (view l).slave _ (mask_by false (get_or l 2 0) (get_or l 1 0))
    go no_port = tt

pub refused_new_keeps_words : RefusedNewKeepsWords
refused_new_keeps_words l m n h k e r = words_same m l k h (e ∙ go (is_rule n) r)
  where
    go : (b : Bool) → (reply_number (cond b (made (rule_in n)) (refused (view l) Unsupported)).reply ≡ 0 → ⊥) → (cond b (made (rule_in n)) (refused (view l) Unsupported)).state ≡ view l
    go true d = absurd (d refl)
    go false d = refl
