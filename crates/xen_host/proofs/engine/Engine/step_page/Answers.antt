use Rattle.std.proofs.Common.{◌/◌, ◌∙◌, drop, sym}
use Rattle.xen_steps.specs.Pages.{covered}
use Rattle.xen_steps.specs.Places.{page_word}
use Rattle.xen_turns.specs.Tree.{after_copy, copy}
use Rattle.xen_host.specs.Early.{at_rx}
use Rattle.xen_host.specs.EngineAt.{engine_at}
use Rattle.xen_host.proofs.FedLemmas.{fed_all, given_some}
use Rattle.xen_host.proofs.RanLedLemmas.{ran_from_same}
use Rattle.xen_host.proofs.engine.Engine.step_page.Goals as goal

pub returns : goal.returns
returns g c =
    let q = engine_at (g.W.Wires.wiring c.args.wires.now) (g.R.Room.held c.args.packet.now) c.args.self.now in
    let i = c.args.i in
    let f = c.args.fragment in
    let w = q.wires in
    let b = q.work in
    let l = c.after_page.ensures.led in
    let given = given_some g.H.Host.has_given (page_word c.args.frame (f.offset / 4)) (covered f) c.args.host.now l.mid l.words c.requires.fits.some l.all l.below l.given in
    record {
      led = record {
        words = l.words;
        mid = l.mid;
        given = given;
        led = ran_from_same _ _ _ _ _ _ _ _ _ (sym (fed_all f c.args.frame (f.offset / 4) l.words b.packet (copy w (drop i b.fragments)) (after_copy w q.state b.chain) (covered f) l.all)) l.led;
      };
      keeps = record {
        early = λ h k. record {
          words = l.words;
          mid = l.mid;
          given = given;
          stays = record {
            state = (l.early k).state;
            left = λ x. (l.early k).left x ∙ sym (fed_all f c.args.frame (f.offset / 4) l.words b.packet (copy w (drop i b.fragments)) (after_copy w (at_rx x q.state) b.chain) (covered f) l.all);
          };
        };
        on = λ h k. c.after_page.ensures.on k;
        rx = λ h. c.after_page.ensures.rx;
        answers = λ h. absurd (cc h);
        late = λ h k. absurd (cc h);
      };
    }
