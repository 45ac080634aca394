-- The runs of a copy are its part of a trace.
use Rattle.xen_steps.proofs.PageLemmas.{runs_words, words_parts}
use Rattle.xen_rx_fill.proofs.EntryParts.{entry_parts, runs_entry}
use Rattle.std.proofs.Common.{◌≡◌, ℕ, ◌/◌, List, [], ◌∷◌, ◌++◌, Option, Some, None, Result, Ok, Err, length, refl, sym, ◌∙◌, ap, append_assoc, subst}
use Rattle.std.proofs.lemmas.List.{append-nil}
use Rattle.xen_netif.specs.Copy.{copy_of}
use Rattle.xen_netif.specs.declared.fragment.Fragment.{Fragment}
use Rattle.xen_netif.proofs.CopyLemmas.{bytes_from-covered}
use Rattle.xen_page.specs.declared.fault.GrantFault.{GrantFault}
use Rattle.xen_page.specs.declared.entry.Rights.TheVariants.{ReadOnly}
use Rattle.xen_steps.specs.Event.{Event}
use Rattle.xen_steps.specs.Steps.{Runs}
use Rattle.xen_rx_fill.specs.Entries.{entry}
use Rattle.xen_turns.specs.Tree.{copy, entered}
use Rattle.xen_steps.specs.Pages.{copy_words, covered}
use Rattle.xen_rx_fill.specs.Shared.{IsEntry}
use Rattle.xen_steps.specs.Pages.{page_reads}
use Rattle.xen_turns.specs.Parts.{behind, IsCopy, copied, denied, part}
use Rattle.xen_turns.specs.declared.wiring.Wiring.{Wiring}
use Rattle.xen_steps.proofs.StepsLemmas.{split, join}

record CopyOf (w : Wiring) (fs : List Fragment) (bytes : List ℕ) (p : List Event) (out : Option (List ℕ)) : Type 0 where
  pub own : Option (List ℕ)
  pub is_copy : IsCopy w fs p own
  pub after : out ≡ behind bytes own

behind_behind : (bytes more : List ℕ) (own : Option (List ℕ)) → behind (bytes ++ more) own ≡ behind bytes (behind more own)
behind_behind bytes more None = refl
behind_behind bytes more (Some later) = ap Some (append_assoc bytes more later)

behind_none : (own : Option (List ℕ)) → behind [] own ≡ own
behind_none None = refl
behind_none (Some later) = refl

entered_parts : (w : Wiring) (f : Fragment) (fs : List Fragment) (bytes : List ℕ) (front : List Event) (r : Result ℕ GrantFault) → IsEntry w.vif ReadOnly f.gref front r →
    ((b : List ℕ) (q : List Event) (out : Option (List ℕ)) → Runs (copy w fs b) q out → CopyOf w fs b q out) →
    (p : List Event) (out : Option (List ℕ)) → Runs (entered f (copy w fs) bytes r) p out → CopyOf w (f ∷ fs) bytes (front ++ p) out
entered_parts w f fs bytes front (Err fault) e go [] out h = rw (append-nil front) (record { own = None; is_copy = denied f fs front fault e; after = sym h })
entered_parts w f fs bytes front (Err fault) e go (x ∷ p) out h = absurd h
entered_parts w f fs bytes front (Ok frame) e go p out h =
    let i = split (copy_words f frame (f.offset / 4) (covered f) bytes) (copy w fs) p out h in
    let c = words_parts f frame (f.offset / 4) (covered f) bytes i.front i.mid i.first in
    let d = go i.mid i.back out i.later in
    let whole : i.mid ≡ bytes ++ copy_of f c.words = c.gives ∙ ap (λ l. bytes ++ l) (bytes_from-covered f (f.offset / 4) c.words refl) in
    rw (i.joined, c.reads) (record {
      own = behind (copy_of f c.words) d.own;
      is_copy = part f fs front i.back frame c.words d.own e c.count c.below d.is_copy;
      after = d.after ∙ ap (λ b. behind b d.own) whole ∙ behind_behind bytes (copy_of f c.words) d.own;
    })

fragments_parts : (w : Wiring) (fs : List Fragment) (bytes : List ℕ) (p : List Event) (out : Option (List ℕ)) → Runs (copy w fs bytes) p out → CopyOf w fs bytes p out
fragments_parts w [] bytes [] out h = record { own = Some []; is_copy = copied; after = sym h ∙ ap Some (sym (append-nil bytes)) }
fragments_parts w [] bytes (e ∷ p) out h = absurd h
fragments_parts w (f ∷ fs) bytes p out h =
    let i = split (entry w.vif ReadOnly f.gref) (entered f (copy w fs) bytes) p out h in
    rw i.joined (entered_parts w f fs bytes i.front i.mid (entry_parts w.vif ReadOnly f.gref i.front i.mid i.first) (λ b q o g. fragments_parts w fs b q o g) i.back out i.later)

pub copy_parts : (w : Wiring) (fs : List Fragment) (p : List Event) (out : Option (List ℕ)) → Runs (copy w fs []) p out → IsCopy w fs p out
copy_parts w fs p out h =
    let c = fragments_parts w fs [] p out h in
    rw (c.after ∙ behind_none c.own) c.is_copy

runs_fragments : (w : Wiring) (fs : List Fragment) (p : List Event) (out : Option (List ℕ)) → IsCopy w fs p out → (bytes : List ℕ) → Runs (copy w fs bytes) p (behind bytes out)
runs_fragments w _ _ _ copied bytes = ap Some (sym (append-nil bytes))
runs_fragments w _ _ _ (denied f fs p fault e) bytes =
    subst (λ q. Runs (copy w (f ∷ fs) bytes) q None) (append-nil p) (join (entry w.vif ReadOnly f.gref) (entered f (copy w fs) bytes) p [] (Err fault) None (runs_entry w.vif ReadOnly f.gref p (Err fault) e) refl)
runs_fragments w _ _ _ (part f fs p q frame words out e count below c) bytes =
    let reads = page_reads frame (f.offset / 4) words in
    let more = bytes ++ copy_of f words in
    let read : Runs (copy_words f frame (f.offset / 4) (covered f) bytes) reads more =
    subst (λ n. Runs (copy_words f frame (f.offset / 4) n bytes) reads more) count
    (subst (λ l. Runs (copy_words f frame (f.offset / 4) (length words) bytes) reads (bytes ++ l)) (bytes_from-covered f (f.offset / 4) words refl) (runs_words f frame (f.offset / 4) words bytes below)) in
    let later : Runs (copy w fs more) q (behind bytes (behind (copy_of f words) out)) =
    subst (λ o. Runs (copy w fs more) q o) (behind_behind bytes (copy_of f words) out) (runs_fragments w fs q out c more) in
    join (entry w.vif ReadOnly f.gref) (entered f (copy w fs) bytes) p (reads ++ q) (Ok frame) _ (runs_entry w.vif ReadOnly f.gref p (Ok frame) e)
    (join (copy_words f frame (f.offset / 4) (covered f) bytes) (copy w fs) reads q more _ read later)

pub runs_copy : (w : Wiring) (fs : List Fragment) (p : List Event) (out : Option (List ℕ)) → IsCopy w fs p out → Runs (copy w fs []) p out
runs_copy w fs p out c = subst (λ o. Runs (copy w fs []) p o) (behind_none out) (runs_fragments w fs p out c [])
