-- Stated: claims rest on this file.
-- Words that threads share, of which nothing is known but how many frames of them there are.
use Rattle.std.specs.Prelude.{ℕ}
use Rattle.xen_page.specs.declared.shared_words.SharedWords.{SharedWords}

abbrev pub frames_of : SharedWords → ℕ
frames_of w = w.count
