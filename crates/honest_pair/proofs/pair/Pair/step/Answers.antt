use Rattle.std.proofs.Common.{◌≡◌, refl, sym, ◌∙◌, ap}
use Rattle.honest_pair.specs.Machine.Pair.{Await, Deliver, Poll, Post, Send}
use Rattle.honest_pair.specs.Events.{event_in}
use Rattle.honest_pair.proofs.FrontLemmas.{does_as, on_ok_map, poll_does, post_does, send_does}
use Rattle.honest_pair.proofs.pair.Pair.step.Goals as goal

pub returns-in-Send : goal.returns-in-Send
returns-in-Send c =
    let bytes = c.as_slice-bytes.result.now in
    let same : event_in c.args.event.now ≡ Send bytes = ap event_in c.in-Send.is ∙ ap Send (sym c.as_slice-bytes.ensures.value) in
    does_as c.args.self.now _ (Send bytes) (event_in c.args.event.now) same
    (send_does c.args.self.now _ refl refl refl bytes c.are_bytes.ensures c.send.result c.send.ensures.answer refl refl c.send.ensures.ok c.send.ensures.err)

pub returns-in-Post : goal.returns-in-Post
returns-in-Post c =
    does_as c.args.self.now _ Post (event_in c.args.event.now) (ap event_in c.in-Post.is)
    (post_does c.args.self.now _ refl refl refl c.post_rx.result c.post_rx.ensures.answer refl refl c.post_rx.ensures.ok c.post_rx.ensures.err)

pub returns-in-Poll : goal.returns-in-Poll
returns-in-Poll c =
    does_as c.args.self.now _ Poll (event_in c.args.event.now) (ap event_in c.in-Poll.is)
    (poll_does c.args.self.now _ refl refl refl c.poll.result c.poll.ensures.answer refl refl c.poll.ensures.ok c.poll.ensures.err)

pub returns-in-Deliver : goal.returns-in-Deliver
returns-in-Deliver c =
    let bytes = c.as_slice-bytes-in-Deliver.result.now in
    let same : event_in c.args.event.now ≡ Deliver bytes = ap event_in c.in-Deliver.is ∙ ap Deliver (sym c.as_slice-bytes-in-Deliver.ensures.value) in
    on_ok_map c.deliver.result c.deliver.ensures (λ d. does_as c.args.self.now _ (Deliver bytes) (event_in c.args.event.now) same d)

pub returns-in-Await : goal.returns-in-Await
returns-in-Await c =
    on_ok_map c.await_slots.result c.await_slots.ensures (λ d. does_as c.args.self.now _ (Await c.in-Await.pages) (event_in c.args.event.now) (ap event_in c.in-Await.is) d)
