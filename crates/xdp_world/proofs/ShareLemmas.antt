-- A queue's share of the history is the labels of its events.
use Rattle.std.proofs.Common.{◌≡◌, ℕ, eqb, Bool, cond, List, [], ◌∷◌, ◌++◌, Option, Some, None, map, filter, refl, sym, ◌∙◌, ap, append_assoc, ⊎_elim}
use Rattle.std.proofs.lemmas.Bool.Decides.{eqb_tells}
use Rattle.std.proofs.lemmas.List.{append-nil, map-append}
use Rattle.std.proofs.lemmas.List.Elements.{filter-append}
use Rattle.bpf_note.specs.History.{share}
use Rattle.bpf_note.specs.declared.op.Op.{Op}
use Rattle.xen_turns.specs.Drive.{label_of, labels}
use Rattle.xen_steps.specs.Event.{Event}
use Rattle.xdp_world.specs.Entries.{Entry, events_of, history, listed, ops_of, tagged}
use Rattle.xdp_world.proofs.Worlds.{eqb_same, eqb_other}

share_append : (i : ℕ) (xs ys : List (ℕ × Op)) → share i (xs ++ ys) ≡ share i xs ++ share i ys
share_append i xs ys =
    let p : ℕ × Op → Bool = λ e. eqb i e.0 in
    ap (map (λ (e : ℕ × Op). e.1)) (filter-append p xs ys) ∙ map-append (λ (e : ℕ × Op). e.1) (filter p xs) (filter p ys)

labels_append : (xs ys : List Event) → labels (xs ++ ys) ≡ labels xs ++ labels ys
labels_append [] ys = refl
labels_append (x ∷ xs) ys = ap (λ l. label_of x ++ l) (labels_append xs ys) ∙ sym (append_assoc (label_of x) (labels xs) (labels ys))

share_own : (q : ℕ) (os : List Op) → share q (tagged q os) ≡ os
share_own q [] = refl
share_own q (o ∷ os) =
    let l : List (ℕ × Op) = filter (λ (e : ℕ × Op). eqb q e.0) (tagged q os) in
    ap (λ (b : Bool). map (λ (e : ℕ × Op). e.1) (cond b ((q, o) ∷ l) l)) (eqb_same q) ∙ ap (λ (x : List Op). o ∷ x) (share_own q os)

share_else : (q i : ℕ) (os : List Op) → (q ≡ i → ⊥) → share i (tagged q os) ≡ []
share_else q i [] n = refl
share_else q i (o ∷ os) n =
    let l : List (ℕ × Op) = filter (λ (e : ℕ × Op). eqb i e.0) (tagged q os) in
    ap (λ (b : Bool). map (λ (e : ℕ × Op). e.1) (cond b ((q, o) ∷ l) l)) (eqb_other i q n) ∙ share_else q i os n

labels_listed : (o : Option Event) → labels (listed o) ≡ ops_of o
labels_listed None = refl
labels_listed (Some e) = append-nil (label_of e)

piece : (i q : ℕ) (o : Option Event) → share i (tagged q (ops_of o)) ≡ labels (cond (eqb q i) (listed o) [])
piece i q o =
    ⊎_elim {C = share i (tagged q (ops_of o)) ≡ labels (cond (eqb q i) (listed o) [])}
    (λ p. rw p.1 (share_own i (ops_of o) ∙ sym (labels_listed o)) ∙ ap (λ (b : Bool). labels (cond b (listed o) [])) (sym (eqb_same i) ∙ ap (λ (x : ℕ). eqb x i) (sym p.1)))
    (λ p. share_else q i (ops_of o) p.1 ∙ ap (λ (b : Bool). labels (cond b (listed o) [])) (sym p.0))
    (eqb_tells q i)

pub shares : (i : ℕ) (es : List Entry) → share i (history es) ≡ labels (events_of i es)
shares i [] = refl
shares i (e ∷ es) =
    share_append i (tagged e.queue (ops_of e.event)) (history es)
    ∙ ap (λ (l : List Op). l ++ share i (history es)) (piece i e.queue e.event)
    ∙ ap (λ (l : List Op). labels (cond (eqb e.queue i) (listed e.event) []) ++ l) (shares i es)
    ∙ sym (labels_append (cond (eqb e.queue i) (listed e.event) []) (events_of i es))
