use Rattle.std.proofs.Common.{◌≡◌, ◌<◌, All, vec_len}
use Rattle.thread_pair.specs.declared.resources.FrontPages.{FrontPages}
use Rattle.thread_pair.proofs.resources.make_pages.Given as goal

abbrev pub invariant-loop-queue : goal.invariant-loop-queue
invariant-loop-queue l = (vec_len l.pages ≡ l.queue) × All (λ (p : FrontPages). p.queue < l.count) l.pages.items
