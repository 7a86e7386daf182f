use Rattle.vlapic.proofs.Range.{own_range}
use borrow.Author.Tests.{ne_eqb}
use Rattle.vlapic.specs.Calls.{handle_write}
use Rattle.vlapic.proofs.VirtualApicRegs.handle_write.Goals as goal

pub returns-then-is_out_of_range : goal.returns-then-is_out_of_range
unfolding handle_write
returns-then-is_out_of_range c = rw (own_range _ _ _ _ _ c.of_apic.ensures c.is_out_of_range.ensures c.if-is_out_of_range.true) c.refuse.ensures

pub returns-in-176 : goal.returns-in-176
unfolding handle_write
returns-in-176 c = rw (own_range _ _ _ _ _ c.of_apic.ensures c.is_out_of_range.ensures c.if-is_out_of_range.false, c.in-176.is) c.write_eoi.ensures

pub returns-in-768 : goal.returns-in-768
unfolding handle_write
returns-in-768 c = rw (own_range _ _ _ _ _ c.of_apic.ensures c.is_out_of_range.ensures c.if-is_out_of_range.false, c.in-768.is) c.write_icr_low.ensures

pub returns-in-1008 : goal.returns-in-1008
unfolding handle_write
returns-in-1008 c = rw (own_range _ _ _ _ _ c.of_apic.ensures c.is_out_of_range.ensures c.if-is_out_of_range.false, c.in-1008.is) c.write_self_ipi.ensures

pub returns-in_default : goal.returns-in_default
unfolding handle_write
returns-in_default c =
    let r = c.in_default.in_default-own.rest in
    rw (own_range _ _ _ _ _ c.of_apic.ensures c.is_out_of_range.ensures c.if-is_out_of_range.false, ne_eqb _ _ r.1, ne_eqb _ _ r.0.1, ne_eqb _ _ r.0.0.1) c.write_register.ensures
