use Rattle.std.proofs.Common.{sym, ◌∙◌, get_or}
use Rattle.vioapic.specs.State.{view}
use Rattle.vioapic.proofs.Ways.{names_ok}
use Rattle.image_rules.specs.Rules.{entry_kept, ioapic_keeps}
use Rattle.image_rules.proofs.Tests.{all_by}
use Rattle.image_rules.proofs.ioapic_keeps.Goals as goal

pub returns-then-is_ok : goal.returns-then-is_ok
unfolding ioapic_keeps view entry_kept
returns-then-is_ok c =
    let v = sym (names_ok (get_or c.args.words.now 29 0) c.try_from.result c.is_ok.result c.try_from.ensures c.is_ok.ensures.value) ∙ c.if-is_ok.true in
    rw v (all_by 24 (entry_kept c.args.words.now) _ c.entries_keep.ensures)

pub returns-else-is_ok : goal.returns-else-is_ok
unfolding ioapic_keeps view
returns-else-is_ok c =
    let v = sym (names_ok (get_or c.args.words.now 29 0) c.try_from.result c.is_ok.result c.try_from.ensures c.is_ok.ensures.value) ∙ c.if-is_ok.false in
    rw v c.if-is_ok.false
