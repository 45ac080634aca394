-- What a turn asked last is withheld where it is answered but for the push, and nowhere else.
use Rattle.std.proofs.Common.{◌≡◌, ℕ, Bool, true, false, List, refl, sym, ap, ◌∙◌, arith}
use Rattle.std.proofs.lemmas.Bool.Decides.{nat_tests}
use Rattle.std.specs.Prelude.{◌==◌, ◌&&◌}
use Rattle.xen_page.specs.declared.place.Place.{Place}
use Rattle.xen_rx_fill.specs.Places.{rx_word, tx_word}
use Rattle.xen_steps.specs.Event.{Event}
use Rattle.xen_steps.specs.Places.{page_word}
use Rattle.xen_steps.specs.declared.want.Want.TheVariants as want
use Rattle.xen_turns.specs.declared.state.State.{State}
use Rattle.xen_host.specs.Asks.{Ask}
use Rattle.xen_host.specs.Asks as ask
use Rattle.xen_host.specs.EngineAt.{EngineAt, WorkAt}
use Rattle.xen_host.specs.Fed.{WaitsFor}
use Rattle.xen_host.specs.Lanes.{held_at, is_withheld}
use Rattle.xen_host.specs.Rest.{is_turning, reads_in, rest_in}
use Rattle.xen_host.specs.Told.{IsPush, IsToldAt}
use Rattle.xen_host.specs.UnderWay.{IsTurningAt}
use Rattle.xen_host.specs.declared.stage.Fill.TheVariants as fill
use Rattle.xen_host.specs.declared.stage.Purpose.TheVariants as purpose
use Rattle.xen_host.specs.declared.stage.Stage.{Stage}
use Rattle.xen_host.specs.declared.stage.Stage.TheVariants as stage
use Rattle.xen_turns.specs.declared.wiring.Wiring.{Wiring}

not_push : (table : List ℕ) (g : Stage) (a : Ask) → (IsPush 2 a → ⊥) → IsToldAt table g a → held_at g ≡ false
not_push table stage.Ready a h told = refl
not_push table stage.Announce a h told = refl
not_push table (stage.Slot left) a h told = refl
not_push table (stage.Entry i at) a h told = refl
not_push table (stage.Page i f frame) a h told = refl
not_push table (stage.Fill f p) a h told = refl
not_push table (stage.Respond i) a h told = refl
not_push table stage.Push a h told = absurd (h told)
not_push table stage.Notice a h told = refl
not_push table (stage.Deliver producer) a h told = refl
not_push table (stage.Wait pages) a h told = refl
not_push table (stage.WaitLook pages) a h told = refl
not_push table stage.Several a h told = refl

both : (x y m n : ℕ) → x ≡ y → m ≡ n → ((x == y) && (m == n)) ≡ true
both x y m n e f = grind (arith, nat_tests)

other_word : (b : Bool) (m n : ℕ) → (m ≡ n → ⊥) → (b && (m == n)) ≡ false
other_word true m n h = by (m == n) refl
  where
    by : (b : Bool) → (m == n) ≡ b → (m == n) ≡ false
    by true e = let is : m ≡ n = grind (arith, nat_tests) in absurd (h is)
    by false e = e
other_word false m n h = refl

other_frame : (x y : ℕ) (b : Bool) → (x ≡ y → ⊥) → ((x == y) && b) ≡ false
other_frame x y b h = by (x == y) refl
  where
    by : (d : Bool) → (x == y) ≡ d → ((x == y) && b) ≡ false
    by true e = let is : x ≡ y = grind (arith, nat_tests) in absurd (h is)
    by false e = ap (λ d. d && b) e

same_read : (p q : Place) → want.Read p ≡ want.Read q → p ≡ q
same_read p q e = cc e

pushed : (w : Wiring) (s : State) (g : Stage) (b : WorkAt) (at : Place) (word read : ℕ) → (w.vif.tx ≡ w.vif.rx → ⊥) → IsToldAt w.vif.table.now g (ask.Push at word read) →
    is_turning g ≡ true → WaitsFor (ask.Push at word read) (reads_in g) (rest_in w s g b) → is_withheld w (ask.Push at word read) ≡ held_at g
pushed w s stage.Ready b at word read apart told here waits = absurd told
pushed w s stage.Announce b at word read apart told here waits = other_word (at.frame == w.vif.tx) at.word 2 (λ e. absurd (omega (arith, e, told)))
pushed w s (stage.Slot left) b at word read apart told here waits = absurd told
pushed w s (stage.Entry i place) b at word read apart told here waits = absurd told
pushed w s (stage.Page i f frame) b at word read apart told here waits = absurd told
pushed w s (stage.Fill fill.Producer p) b at word read apart told here waits = absurd told
pushed w s (stage.Fill (fill.Slot left) p) b at word read apart told here waits = absurd told
pushed w s (stage.Fill (fill.Grant left id place) p) b at word read apart told here waits = absurd told
pushed w s (stage.Fill (fill.Words i) p) b at word read apart told here waits = absurd told
pushed w s (stage.Fill (fill.Respond grants i) p) b at word read apart told here waits = absurd told
pushed w s (stage.Fill (fill.Push grants) (purpose.Back n)) b at word read apart told here waits =
    let rx : w.vif.rx ≡ at.frame = ap (λ (p : Place). p.frame) (same_read (rx_word w.vif 3) (page_word at.frame read) waits.1.0) in
    other_frame at.frame w.vif.tx (at.word == 2) (λ e. apart (sym (rx ∙ e)))
pushed w s (stage.Fill (fill.Push grants) purpose.Delivery) b at word read apart told here waits = cc here
pushed w s (stage.Fill (fill.Notice grants) p) b at word read apart told here waits = absurd told
pushed w s (stage.Respond i) b at word read apart told here waits = absurd told
pushed w s stage.Push b at word read apart told here waits =
    let tx : w.vif.tx ≡ at.frame = ap (λ (p : Place). p.frame) (same_read (tx_word w.vif 3) (page_word at.frame read) waits.1.0) in
    both at.frame w.vif.tx at.word 2 (sym tx) told
pushed w s stage.Notice b at word read apart told here waits = absurd told
pushed w s (stage.Deliver producer) b at word read apart told here waits = absurd told
pushed w s (stage.Wait pages) b at word read apart told here waits = absurd told
pushed w s (stage.WaitLook pages) b at word read apart told here waits = cc here
pushed w s stage.Several b at word read apart told here waits = absurd told

pub withheld_held : (e : EngineAt) (a : Ask) (s : State) (t : List Event) → (e.wires.vif.tx ≡ e.wires.vif.rx → ⊥) → IsToldAt e.wires.vif.table.now e.stage a → IsTurningAt e s t a → is_withheld e.wires a ≡ held_at e.stage
withheld_held e (ask.Push at word read) s t apart told on = pushed e.wires e.state e.stage e.work at word read apart told on.is_here on.waits
withheld_held e (ask.Read at count) s t apart told on = sym (not_push e.wires.vif.table.now e.stage (ask.Read at count) (λ x. x) told)
withheld_held e (ask.Entry at reference rights) s t apart told on = sym (not_push e.wires.vif.table.now e.stage (ask.Entry at reference rights) (λ x. x) told)
withheld_held e (ask.Write at count) s t apart told on = sym (not_push e.wires.vif.table.now e.stage (ask.Write at count) (λ x. x) told)
withheld_held e (ask.Store at word) s t apart told on = sym (not_push e.wires.vif.table.now e.stage (ask.Store at word) (λ x. x) told)
withheld_held e (ask.StoreTwo at x y) s t apart told on = sym (not_push e.wires.vif.table.now e.stage (ask.StoreTwo at x y) (λ x. x) told)
withheld_held e (ask.Notify port) s t apart told on = sym (not_push e.wires.vif.table.now e.stage (ask.Notify port) (λ x. x) told)
withheld_held e (ask.TurnOver k) s t apart told on = sym (not_push e.wires.vif.table.now e.stage (ask.TurnOver k) (λ x. x) told)
withheld_held e (ask.DeliveryOver what) s t apart told on = sym (not_push e.wires.vif.table.now e.stage (ask.DeliveryOver what) (λ x. x) told)
withheld_held e (ask.WaitOver what) s t apart told on = sym (not_push e.wires.vif.table.now e.stage (ask.WaitOver what) (λ x. x) told)
