use mathlib.Core.Path.{refl, sym, ◌∙◌}
use borrow.Author.Rules.{rules}
use Rattle.script_resume.proofs.Going.{started_ok, printed_from_start, left_from_start, saved_all, saved_counts}
use Rattle.script_resume.proofs.go_on.Goals as goal

pub returns : goal.returns
returns c =
    let a = c.args in
    let s = c.start.ensures in
    let p = c.print_from-end.ensures in
    let i = saved_all _ _ _ _ _ c.save-saved.result (search rules) c.save-saved.ensures in record {
      goes = (
        started_ok a.image.now _ (sym c.in_ok-start.was ∙ s.answer),
        (printed_from_start a.image.now a.script.now _ _ _ _ s.machine_after p.puts, left_from_start a.image.now a.script.now _ _ s.machine_after p.machine_after, i, refl),
      );
      prefix_len = p.prefix_len;
      prefix_len_2 = saved_counts _ _ _ _ i;
    }
