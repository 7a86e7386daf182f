-- Nothing is lost in a reply: what an entry asks to inject can be read back from it. Assumes nothing.
use Rattle.std.specs.Prelude.{Option, Some, None}
use Prim.Native.Nat.{ℕ}
use mathlib.Core.Bool.{Bool, true, false}
use mathlib.Core.Path.{◌≡◌, refl, sym, ap, ◌∙◌}
use lib.Dec.{eqb}
use Rattle.types.specs.Reply.{flag}
use Rattle.types.specs.declared.Reply.{Reply}
use Rattle.types.specs.declared.Reply.TheVariants.{Refused, Nothing, One, Two, Three}
use Rattle.vioapic_entry.specs.Answers.{routed_reply}
use Rattle.vioapic_entry.specs.declared.IoApicInterrupt.{IoApicInterrupt}

-- what has a way back is one to one
pub same : {A B : Type 0} (f : A → B) (g : B → A) → ((a : A) → g (f a) ≡ a) → (a b : A) → f a ≡ f b → a ≡ b
same f g back a b e = sym (back a) ∙ ap g e ∙ back b

flag_back : (b : Bool) → eqb (flag b) 1 ≡ b
flag_back true = refl
flag_back false = refl

abbrev pub interrupt_of : ℕ → ℕ → IoApicInterrupt
interrupt_of v l = record { vector = record { 0 = v }; level_triggered = eqb l 1 }

pub interrupt_back : (i : IoApicInterrupt) → interrupt_of i.vector.0 (flag i.level_triggered) ≡ i
interrupt_back i = ap (λ (b : Bool). record { vector = i.vector; level_triggered = b }) (flag_back i.level_triggered)

abbrev pub routed_of : Reply → Option IoApicInterrupt
routed_of (Refused why) = None
routed_of Nothing = None
routed_of (One a) = None
routed_of (Two v l) = Some (interrupt_of v l)
routed_of (Three a v l) = Some (interrupt_of v l)

pub routed_back : (r : Option IoApicInterrupt) → routed_of (routed_reply r) ≡ r
routed_back None = refl
routed_back (Some i) = ap Some (interrupt_back i)

pub routed_reply_same : (a b : Option IoApicInterrupt) → routed_reply a ≡ routed_reply b → a ≡ b
routed_reply_same = same routed_reply routed_of routed_back
