use Rattle.std.proofs.Common.{◌∙◌, ◌<◌, ℕ, subst, sym}
use Rattle.thread_pair.specs.Working.{task_of}
use Rattle.thread_pair.proofs.pairing.fn.run_all.scope.Goals as goal

pub returns : goal.returns
returns g c =
    let back = c.join_backs-seats.ensures in
    let own = back.own (task_of c.captures.job.now.program.now c.captures.job.now.listed.now.lists.items c.captures.job.now.shared.now) c.captures.job.now.turns c.captures.counters.now c.in_ok-backs.ensures.seats in
    (own.0, own.1, λ q h. back.numbers q (subst (λ (n : ℕ). q < n) (sym c.join_fronts.ensures) h), back.rows ∙ c.join_fronts.ensures)
