-- Stated: claims rest on this file.
-- What a front has left of its activity.
use Rattle.std.specs.Prelude.{ℕ, suc, ◌≤◌, ◌+◌, ◌-◌, ◌*◌, Bool, true, false, List, [], ◌∷◌, ◌++◌, length, drop, get_or}
use Rattle.xen_netif.specs.Slots.{tx_req_words}
use Rattle.xen_netif.specs.Words.{joined}
use Rattle.xen_netif.specs.declared.fragment.Fragment.{Fragment}
use Rattle.xen_steps.specs.Pages.{PageWrite, copy_words, write_all}
use Rattle.xen_steps.specs.Places.{add32}
use Rattle.xen_steps.specs.Steps.{Steps, done, ask, bind}
use Rattle.xen_steps.specs.declared.want.Want.TheVariants as want
use Rattle.xen_front.specs.Given.{Ending, Idle, given}
use Rattle.xen_front.specs.Slots.{buffer, covered_bytes, ended, filling, grant_place, piece_request, piece_words, piece_writes}
use Rattle.xen_front.specs.Slots.{post_writes, send_writes, tx_writes}
use Rattle.xen_front.specs.Tree.{Extra, Gathered, Slot, after_rx_look, after_tx_look, announce, chained, continues, extra_first, extra_second}
use Rattle.xen_front.specs.Tree.{first_word, grown, look_again, notice}
use Rattle.xen_front.specs.Tree.{poll, publish, read_event, read_page, receive, second_word, take_all}
use Rattle.xen_front.specs.declared.by_event.phase.Chained.{Chained}
use Rattle.xen_front.specs.declared.by_event.phase.Part.{Part}
use Rattle.xen_front.specs.declared.by_event.phase.Phase.{Phase}
use Rattle.xen_front.specs.declared.by_event.phase.Phase.TheVariants as phase
use Rattle.xen_front.specs.declared.by_event.phase.Piece.{Piece}
use Rattle.xen_front.specs.declared.state.FrontState.{FrontState}
use Rattle.xen_buffers.specs.declared.wiring.FrontWiring.{FrontWiring}

abbrev pub id_of : Piece → ℕ
id_of r = get_or r.ids.items r.index 0

abbrev pub pieces : Piece → ℕ
pieces r = length r.ids.items

-- what follows a piece
abbrev pub later_writes : FrontWiring → List ℕ → Piece → List PageWrite
later_writes w p r = send_writes w r.start p (pieces r) (r.index + 1) (drop (r.index + 1) r.ids.items)

-- these writes and those of the pieces that follow, and the push
abbrev pub sending : FrontWiring → FrontState → List ℕ → Piece → List PageWrite → Steps Ending
sending w s p r ns = write_all (ns ++ later_writes w p r) (publish w w.tx_frame r.start (add32 r.start (pieces r)) s)

-- the slot's words from the j-th on
abbrev pub slot_from : FrontWiring → List ℕ → Piece → ℕ → List PageWrite
slot_from w p r j = tx_writes w.tx_frame (add32 r.start r.index) j (drop j (tx_req_words (piece_request w p (pieces r) r.index (id_of r))))

abbrev pub filling_from : FrontWiring → FrontState → List ℕ → Piece → ℕ → Steps Ending
filling_from w s p r j = sending w s p r (filling w r.start p (pieces r) r.index (id_of r) (piece_words (length p) r.index - j) j)

-- a post's writes from the j-th on
abbrev pub posting : FrontWiring → FrontState → (id start j : ℕ) → Steps Ending
posting w s id start j = write_all (drop j (post_writes w start id)) (publish w w.rx_frame start (add32 start 1) s)

abbrev pub gathered : Chained → List ℕ → Gathered
gathered c q = record { slots = c.slots; bad = c.bad; bytes = q; offload = c.offload; next = Slot }

-- before the extra of a packet, behind which the chain goes on or doesn't
abbrev pub before_extra : Chained → Bool → List ℕ → Gathered
before_extra c more q = record (gathered c q) { next = Extra more }

-- after a part's page words
abbrev pub part_rest : FrontWiring → FrontState → Part → List ℕ → Steps Ending
part_rest w s x bytes = chained (continues x.response.flags) s (grown (gathered x.chained []) x.response bytes) (receive w x.chained.left)

-- with the packet that is sent, and the bytes that are received so far
abbrev pub rest_at : FrontWiring → FrontState → List ℕ → List ℕ → Phase → Steps Ending
rest_at w s p q phase.Ready = done (s, Idle)
rest_at w s p q (phase.GrantFrame r) = sending w s p r (piece_writes w r.start p (pieces r) r.index (id_of r))
rest_at w s p q (phase.GrantFlags r) =
    sending w s p r (record { at = grant_place w (buffer w.tx.now (id_of r)); value = joined 5 w.back }
    ∷ filling w r.start p (pieces r) r.index (id_of r) (piece_words (length p) r.index) 0)
rest_at w s p q (phase.Fill f) = filling_from w s p f.piece f.written
rest_at w s p q (phase.Second r) = sending w s p r (slot_from w p r 1)
rest_at w s p q (phase.Third r) = sending w s p r (slot_from w p r 2)
rest_at w s p q (phase.PostFrame id start) = posting w s id start 0
rest_at w s p q (phase.PostFlags id start) = posting w s id start 1
rest_at w s p q (phase.PostFirst id start) = posting w s id start 2
rest_at w s p q (phase.PostSecond id start) = posting w s id start 3
rest_at w s p q (phase.Publish x) = publish w x.frame x.old x.new s
rest_at w s p q (phase.ReadEvent x) = read_event w x.frame x.old x.new s
rest_at w s p q phase.Notice = notice w true s
rest_at w s p q phase.TxLook = poll w s
rest_at w s p q phase.TxAnnounce = bind (announce w.tx_frame s.tx) (after_tx_look w s)
rest_at w s p q phase.TxLookAgain = bind (look_again w.tx_frame s.tx) (after_tx_look w s)
rest_at w s p q (phase.Take n) = take_all w n s
rest_at w s p q (phase.TxEnd id n) = ask (want.Write (ended w (buffer w.tx.now id)).at 0) (λ _. take_all w n s)
rest_at w s p q phase.RxAnnounce = bind (announce w.rx_frame s.rx) (after_rx_look w s)
rest_at w s p q phase.RxLookAgain = bind (look_again w.rx_frame s.rx) (after_rx_look w s)
rest_at w s p q (phase.RxFirst c) = first_word w s (gathered c q) (receive w c.left)
rest_at w s p q (phase.RxSecond c a) = second_word w s (gathered c q) a (receive w c.left)
rest_at w s p q (phase.RxEnd x) =
    ask (want.Write (ended w (buffer w.rx.now x.response.id)).at 0)
    (λ _. read_page w s (gathered x.chained q) x.response (receive w x.chained.left))
rest_at w s p q (phase.RxPage g) =
    bind (copy_words g.fragment g.frame g.place (suc g.more) q) (part_rest w s g.part)
rest_at w s p q (phase.ExtraFirst x) = extra_first w x.more s (before_extra x.chained x.more q) (receive w x.chained.left)
rest_at w s p q (phase.ExtraSecond x a) = extra_second w x.more s (before_extra x.chained x.more q) a (receive w x.chained.left)
rest_at w s p q (phase.ExtraEnd x id) =
    ask (want.Write (ended w (buffer w.rx.now id)).at 0) (λ _. chained x.more s (gathered x.chained q) (receive w x.chained.left))
rest_at w s p q (phase.Ended kind) = done (s, given kind q)

-- the bytes of a fragment from a place's word on
abbrev pub bytes_left : Fragment → ℕ → ℕ
bytes_left f place = f.offset + f.size - 4 * place - (f.offset - 4 * place)

-- how many bytes there are with what is to come of a part
abbrev pub needed : Phase → List ℕ → ℕ
needed (phase.RxEnd x) q = length q + covered_bytes x.response.status
needed (phase.RxPage g) q = length q + bytes_left g.fragment g.place
needed x q = 0

-- they fit a packet
abbrev pub HasSpace : Phase → List ℕ → Type 0
HasSpace x q = needed x q ≤ 65535

abbrev pub busy_in : Phase → Bool
busy_in phase.Ready = false
busy_in x = true
