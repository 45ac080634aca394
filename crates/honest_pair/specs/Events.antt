-- Stated: claims rest on this file.
-- The events of a pair, as its calls take them.
use Rattle.std.specs.Prelude.{List, [], ◌∷◌}
use Rattle.honest_pair.specs.Machine.Pair.{PairEvent, Send, Post, Poll, FrontStep, BackStep, Deliver, Await}
use Rattle.honest_pair.specs.declared.event.PairEvent.{PairEvent as Called}
use Rattle.honest_pair.specs.declared.event.PairEvent.TheVariants as called

abbrev pub event_in : Called → PairEvent
event_in (called.Send packet) = Send packet.items
event_in called.Post = Post
event_in called.Poll = Poll
event_in called.FrontStep = FrontStep
event_in called.BackStep = BackStep
event_in (called.Deliver packet) = Deliver packet.items
event_in (called.Await pages) = Await pages

abbrev pub events_in : List Called → List PairEvent
events_in [] = []
events_in (e ∷ es) = event_in e ∷ events_in es
