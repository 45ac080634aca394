use Rattle.std.proofs.Common.{[], ◌∷◌, refl}
use Rattle.std.specs.Prelude.{slice_index}
use Rattle.xen_host.proofs.FedLemmas.{words_below}
use Rattle.xen_host.proofs.engine.Engine.step_entry.Goals as goal

pub returns : goal.returns
returns g c =
    let r = c.after_entry in
    let words = slice_index c.two.result 0 ∷ slice_index c.two.result 1 ∷ [] in
    let below = words_below words c.are_words.ensures in
    record {
      led = record { words = words; mid = c.two.new.self; given = (refl, c.two.ensures.given, below); led = r.ensures.led };
      keeps = record {
        early = λ h k. record { words = words; mid = c.two.new.self; given = (refl, c.two.ensures.given, below); stays = r.ensures.early k };
        on = λ h k. r.ensures.on k;
        rx = λ h. r.ensures.rx;
        answers = λ h. absurd (cc h);
        late = λ h k. absurd (cc h);
      };
    }
