-- What a host was asked leads from a computation: one ask, an ask before others, and asks after which nothing is asked yet.
use Rattle.std.proofs.Common.{◌≡◌, ℕ, ◌⊎◌, inl, inr, true, false, List, [], ◌∷◌, ◌++◌, refl, sym, ap, ◌∙◌, subst, append_assoc, append-nil}
use Rattle.xen_host.specs.Offload.{Offload}
use Rattle.xen_steps.specs.Drive.{LedBy}
use Rattle.xen_steps.specs.Event.{Event}
use Rattle.xen_steps.specs.Steps.{Steps}
use Rattle.xen_steps.proofs.DriveLemmas.{gone_append}
use Rattle.xen_host.specs.Asks.{AllSized, Ask, IsSized, TakeNone, did_all, did_by, needs_no_answer, takes_none}
use Rattle.xen_host.specs.Fits.{Fits}
use Rattle.xen_host.specs.HostLed.{HostLed}
use Rattle.xen_host.specs.Hosts.{WasAskedAll, asks_of, events_of, plain_all}
use Rattle.xen_host.specs.EngineAt.{EngineAt}
use Rattle.xen_host.proofs.LedLemmas.{AreChained}

-- One ask with these words, after which a step may end.
pub asks_last : {H A : Type 0} (was : H → Ask → List ℕ → H → Type 0) (full : H → Type 0) (ends : Ask → Steps A → Type 0) (offload : Offload) (from left : Steps A) (new : EngineAt) (host host_after : H) (a : Ask) (words : List ℕ) →
    was host a words host_after → full host_after ⊎ (needs_no_answer a ≡ false) → IsSized a →
    LedBy from (did_by a words) left → ends a left → new.offload ≡ offload → Fits new.stage new.work → HostLed was full ends offload from new host host_after
asks_last was full ends offload from left new host host_after a words asked stops sized gone is_end offload_is fits = record {
  first = [];
  last = record { ask = a; words = words };
  asked = (host_after, asked, refl);
  take_none = tt;
  stops = stops;
  sized = (sized, tt);
  left = left;
  gone = subst (λ (t : List Event). LedBy from t left) (sym (append-nil (did_by a words))) gone;
  is_end = is_end;
  offload_is = offload_is;
  fits = fits;
}

-- One ask that a step can't go on after.
pub asks_one : {H A : Type 0} (was : H → Ask → List ℕ → H → Type 0) (full : H → Type 0) (ends : Ask → Steps A → Type 0) (offload : Offload) (from left : Steps A) (new : EngineAt) (host host_after : H) (a b : Ask) →
    was host b [] host_after → b ≡ a → needs_no_answer a ≡ false → IsSized a →
    LedBy from (did_by a []) left → ends a left → new.offload ≡ offload → Fits new.stage new.work → HostLed was full ends offload from new host host_after
asks_one was full ends offload from left new host host_after a b asked is stops sized gone is_end offload_is fits =
    asks_last was full ends offload from left new host host_after a [] (subst (λ x. was host x [] host_after) is asked) (inr stops) sized gone is_end offload_is fits

-- An ask that takes no answer, before others.
pub asks_before : {H A : Type 0} (was : H → Ask → List ℕ → H → Type 0) (full : H → Type 0) (ends : Ask → Steps A → Type 0) (offload : Offload) (from between : Steps A) (new : EngineAt) (host mid host_after : H) (a : Ask) (words : List ℕ) →
    was host a words mid → takes_none a ≡ true → IsSized a → LedBy from (did_by a words) between →
    HostLed was full ends offload between new mid host_after → HostLed was full ends offload from new host host_after
asks_before was full ends offload from between new host mid host_after a words asked none sized gone h = record {
  first = record { ask = a; words = words } ∷ h.first;
  last = h.last;
  asked = (mid, asked, h.asked);
  take_none = (none, h.take_none);
  stops = h.stops;
  sized = (sized, h.sized);
  left = h.left;
  gone = gone_append from between h.left (did_by a words) (events_of (h.first ++ h.last ∷ [])) gone h.gone;
  is_end = h.is_end;
  offload_is = h.offload_is;
  fits = h.fits;
}

-- From another computation that is the same.
pub asked_from : {H A : Type 0} (was : H → Ask → List ℕ → H → Type 0) (full : H → Type 0) (ends : Ask → Steps A → Type 0) (offload : Offload) (from same : Steps A) (new : EngineAt) (host host_after : H) →
    same ≡ from → HostLed was full ends offload same new host host_after → HostLed was full ends offload from new host host_after
asked_from was full ends offload from same new host host_after e h = subst (λ x. HostLed was full ends offload x new host host_after) e h

-- With the same left undone.
pub asked_with : {H A : Type 0} (was : H → Ask → List ℕ → H → Type 0) (full : H → Type 0) (ends : Ask → Steps A → Type 0) (same offload : Offload) (from : Steps A) (new : EngineAt) (host host_after : H) →
    same ≡ offload → HostLed was full ends same from new host host_after → HostLed was full ends offload from new host host_after
asked_with was full ends same offload from new host host_after e h = subst (λ x. HostLed was full ends x from new host host_after) e h

-- ---- several asks that take no answer and no words

-- One more was asked.
pub asked_more : {H : Type 0} (was : H → Ask → List ℕ → H → Type 0) (all : List Ask) (a : Ask) (host mid new : H) →
    WasAskedAll was host (plain_all all) mid → was mid a [] new → WasAskedAll was host (plain_all (all ++ a ∷ [])) new
asked_more was [] a host mid new e h = (new, subst (λ x. was x a [] new) (sym e) h, refl)
asked_more was (x ∷ all) a host mid new e h = (e.0, e.1, asked_more was all a e.0 mid new e.2 h)

-- All that was asked, before what follows.
pub asks_all : {H A : Type 0} (was : H → Ask → List ℕ → H → Type 0) (full : H → Type 0) (ends : Ask → Steps A → Type 0) (offload : Offload) (from between : Steps A) (new : EngineAt) (all : List Ask) (host mid host_after : H) →
    WasAskedAll was host (plain_all all) mid → AreChained all → LedBy from (did_all all []) between →
    HostLed was full ends offload between new mid host_after → HostLed was full ends offload from new host host_after
asks_all {H = H} was full ends offload from between new all host mid host_after asked chained gone h = record {
  first = plain_all all ++ h.first;
  last = h.last;
  asked = subst (λ l. WasAskedAll was host l host_after) (sym (append_assoc (plain_all all) h.first (h.last ∷ []))) (then all host asked);
  take_none = none all chained;
  stops = h.stops;
  sized = subst (λ l. AllSized (asks_of l)) (sym (append_assoc (plain_all all) h.first (h.last ∷ []))) (sizes all chained);
  left = h.left;
  gone = subst (λ (t : List Event). LedBy from t h.left) (sym (ap events_of (append_assoc (plain_all all) h.first (h.last ∷ [])) ∙ events all))
      (gone_append from between h.left (did_all all []) (events_of (h.first ++ h.last ∷ [])) gone h.gone);
  is_end = h.is_end;
  offload_is = h.offload_is;
  fits = h.fits;
}
  where
    then : (all : List Ask) (host : H) → WasAskedAll was host (plain_all all) mid → WasAskedAll was host (plain_all all ++ (h.first ++ h.last ∷ [])) host_after
    then [] host e = subst (λ x. WasAskedAll was x (h.first ++ h.last ∷ []) host_after) (sym e) h.asked
    then (x ∷ all) host e = (e.0, e.1, then all e.0 e.2)

    none : (all : List Ask) → AreChained all → TakeNone (asks_of (plain_all all ++ h.first))
    none [] c = h.take_none
    none (x ∷ all) c = (c.0, none all c.3)

    sizes : (all : List Ask) → AreChained all → AllSized (asks_of (plain_all all ++ (h.first ++ h.last ∷ [])))
    sizes [] c = h.sized
    sizes (x ∷ all) c = (c.2, sizes all c.3)

    events : (all : List Ask) → events_of (plain_all all ++ (h.first ++ h.last ∷ [])) ≡ did_all all [] ++ events_of (h.first ++ h.last ∷ [])
    events [] = refl
    events (x ∷ all) = ap (λ l. did_by x [] ++ l) (events all) ∙ sym (append_assoc (did_by x []) (did_all all []) (events_of (h.first ++ h.last ∷ [])))

-- Where a trace of two parts leads from: the first part leads to something between.
pub gone_split : {A : Type 0} (s s' : Steps A) (t u : List Event) → LedBy s (t ++ u) s' → (m : Steps A) × LedBy s t m × LedBy m u s'
gone_split s s' [] u g = (s, refl, g)
gone_split s s' (e ∷ t) u g = let r = gone_split g.0 s' t u g.2 in (r.0, (g.0, g.1, r.1), r.2)

-- All was asked, and the host is full.
pub asks_full : {H A : Type 0} (was : H → Ask → List ℕ → H → Type 0) (full : H → Type 0) (ends : Ask → Steps A → Type 0) (offload : Offload) (from left : Steps A) (new : EngineAt) (x : Ask) (all : List Ask) (host host_after : H) →
    WasAskedAll was host (plain_all (x ∷ all)) host_after → AreChained (x ∷ all) → full host_after → LedBy from (did_all (x ∷ all) []) left →
    ((a : Ask) → takes_none a ≡ true → ends a left) → new.offload ≡ offload → Fits new.stage new.work → HostLed was full ends offload from new host host_after
asks_full was full ends offload from left new x [] host host_after asked chained is_full gone is_end offload_is fits =
    asks_last was full ends offload from left new host host_after x [] (subst (λ y. was host x [] y) asked.2 asked.1) (inl is_full) chained.2
    (subst (λ (t : List Event). LedBy from t left) (append-nil (did_by x [])) gone) (is_end x chained.0) offload_is fits
asks_full was full ends offload from left new x (y ∷ all) host host_after asked chained is_full gone is_end offload_is fits =
    let g = gone_split from left (did_by x []) (did_all (y ∷ all) []) gone in
    asks_before was full ends offload from g.0 new host asked.0 host_after x [] asked.1 chained.0 chained.2 g.1
    (asks_full was full ends offload g.0 left new y all asked.0 host_after asked.2 chained.3 is_full g.2 is_end offload_is fits)
