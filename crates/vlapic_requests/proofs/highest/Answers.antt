use Prim.Native.Nat.{◌+◌, ◌-◌}
use native.Mathlib.Omega.{arith}
use Rattle.vlapic_requests.proofs.Search.{above_8, down, empty, found_low, found, none}
use Rattle.vlapic_requests.proofs.highest.Goals as goal

pub loop-w-init : goal.loop-w-init
loop-w-init c = (omega arith, above_8 c.args.words.now c.args.base)

pub returns-then-vector-lt-LOWEST : goal.returns-then-vector-lt-LOWEST
returns-then-vector-lt-LOWEST c =
    let s = c.loop-w in
    let a = c.args in
    found_low a.words.now a.base (s.w - 1) _ (down a.words.now a.base s.w (s.w - 1 + 1) s.invariant.1 (omega arith)) c.low-held.ensures (omega arith) c.if-held-ne0.true _ c.in_word-vector.ensures (omega arith)

pub returns-else-vector-lt-LOWEST : goal.returns-else-vector-lt-LOWEST
returns-else-vector-lt-LOWEST c =
    let s = c.loop-w in
    let a = c.args in
    found a.words.now a.base (s.w - 1) _ (down a.words.now a.base s.w (s.w - 1 + 1) s.invariant.1 (omega arith)) c.low-held.ensures (omega arith) c.if-held-ne0.true _ c.in_word-vector.ensures (omega arith)

pub loop-w-preserved : goal.loop-w-preserved
loop-w-preserved c =
    let s = c.loop-w in
    let a = c.args in
    (omega arith, empty a.words.now a.base (s.w - 1) _ (down a.words.now a.base s.w (s.w - 1 + 1) s.invariant.1 (omega arith)) c.low-held.ensures (omega arith) c.if-held-ne0.false)

pub returns : goal.returns
returns c = none c.args.words.now c.args.base c.loop-w.w c.loop-w.invariant.1 (omega arith)
