-- A round from its turn, and from its answer's delivery.
use Rattle.std.proofs.Common.{◌≡◌, ◌∙◌, List, [], Option, None, Some, sym, subst, ℕ}
use Rattle.bpf_note.specs.declared.op.Op.{Op}
use Rattle.xen_back.specs.Delivered.{IsDelivered}
use Rattle.xen_netif.specs.declared.offload.RxOffload.TheVariants.{Whole}
use Rattle.xen_turns.specs.Delivered.{IsDelivery}
use Rattle.xen_back.specs.Drive.{IsTurnOver}
use Rattle.xen_back.specs.Queues.{state_of}
use Rattle.xen_turns.specs.declared.delivery.delivering.Delivery.{Delivery}
use Rattle.xen_back.specs.declared.queue.Queue.{Queue}
use Rattle.xen_turns.specs.declared.turn.Turn.{Turn}
use Rattle.xen_turns.specs.declared.wiring.Wiring.{Wiring}
use Rattle.xen_page.specs.declared.access.Access.{Access}
use Rattle.xen_page.proofs.AccessLemmas.{performs_none, performs_then}
use Rattle.xen_steps.specs.Drive.{accesses}
use Rattle.thread_pair.specs.Answering.{shown_reply}
use Rattle.thread_pair.specs.Rounds.{IsRoundOver, silent, answered, next_of, slots_in, with_delivery, with_turn}
use Rattle.thread_pair.specs.declared.host.OnPass.{OnPass}
use Rattle.thread_pair.specs.declared.next.Next.{Next}
use Rattle.thread_pair.specs.declared.report.BackRow.{BackRow}
use Rattle.thread_pair.proofs.CountLemmas.{counts_answer, counts_more, next_shown, reply_shown, slots_shown}

pub silent_round : {S : Type 0} (log : S → Option (List Access)) (gives : S → Access → S → Type 0) (h : OnPass) (old new : Queue) (row row' : BackRow) (n : Next) (slots : ℕ) (bus bus' : S) (ops ops' : List Op) (s : Turn) →
    IsTurnOver log gives old new s bus bus' ops ops' → row' ≡ with_turn s row → n ≡ next_of s → slots ≡ slots_in s → shown_reply h s ≡ None →
    IsRoundOver log gives h old new row row' n slots bus bus' ops ops'
silent_round log gives h old new row row' n slots bus bus' ops ops' s o counts goes done none = record {
  trace = o.trace;
  sending = [];
  turned = o.turned;
  sent = None;
  is_round = silent o.trace (state_of new) o.turned o.is_turn (sym (reply_shown h o.turned s o.shows) ∙ none);
  performed = performs_then log gives bus bus' bus' (accesses o.trace) [] o.performed (performs_none log gives bus');
  grown = o.grown;
  counts = λ rs is. counts ∙ counts_more o.turned rs s row o.shows is;
  goes = goes ∙ next_shown o.turned s o.shows;
  settles = done ∙ slots_shown o.turned s o.shows;
  ready = o.ready;
  same = o.same;
}

pub answered_round : {S : Type 0} (log : S → Option (List Access)) (gives : S → Access → S → Type 0) (h : OnPass) (old mid new : Queue) (row told row' : BackRow) (n : Next) (slots : ℕ) (bus between bus' : S) (ops ops' : List Op) (s : Turn)
    (packet : List ℕ) (d : Delivery) → IsTurnOver log gives old mid s bus between ops ops' → told ≡ with_turn s row → n ≡ next_of s → slots ≡ slots_in s → shown_reply h s ≡ Some packet →
    IsDelivered log gives mid new Whole packet d between bus' → row' ≡ with_delivery d told → IsRoundOver log gives h old new row row' n slots bus bus' ops ops'
answered_round log gives h old mid new row told row' n slots bus between bus' ops ops' s packet d o counts goes done some sent noted = record {
  trace = o.trace;
  sending = sent.trace;
  turned = o.turned;
  sent = Some d;
  is_round = answered o.trace sent.trace (state_of mid) (state_of new) o.turned packet d o.is_turn (sym (reply_shown h o.turned s o.shows) ∙ some)
      (subst (λ (w : Wiring). IsDelivery w (state_of mid) Whole packet sent.trace (state_of new) d) o.same.wiring sent.is_delivery);
  performed = performs_then log gives bus between bus' (accesses o.trace) (accesses sent.trace) o.performed sent.performed;
  grown = o.grown;
  counts = λ rs is. noted ∙ counts_answer o.turned d rs told (counts ∙ counts_more o.turned rs s row o.shows is);
  goes = goes ∙ next_shown o.turned s o.shows;
  settles = done ∙ slots_shown o.turned s o.shows;
  ready = sent.ready;
  same = record {
    wiring = sent.same.wiring ∙ o.same.wiring;
    tx_ring = sent.same.tx_ring ∙ o.same.tx_ring;
    rx_ring = sent.same.rx_ring ∙ o.same.rx_ring;
  };
}
