-- Bytes that were put on a page, behind its text.
use Rattle.std.specs.Prelude.{ℕ, List, ◌≡◌, length}
use Rattle.reply_text.specs.declared.Page.{Page}
use Rattle.reply_text.specs.Text.{Puts}

pub record PutsOn (before : Page) (bytes : List ℕ) (after : Page) : Type 0 where
  pub puts : Puts before.out.now before.end bytes after.out.now after.end
  pub long : length after.out.now ≡ length before.out.now
