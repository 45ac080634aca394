use Rattle.std.proofs.Common.{◌∷◌, [], ℕ, List, sym, ap, ◌∙◌, subst}
use Rattle.xen_page.specs.Access.{Performs}
use Rattle.xen_page.specs.declared.access.Access.{Access}
use Rattle.xen_page.specs.declared.access.Access.TheVariants as access
use Rattle.xen_page.proofs.AccessLemmas.{performs_one, performs_then}
use Rattle.xen_steps.specs.Places.{page_word}
use Rattle.xen_front.specs.Rest.{id_of}
use Rattle.xen_front.specs.Slots.{buffer, page_writes}
use Rattle.xen_front.specs.Straight.{touched}
use Rattle.xen_front.proofs.StraightLemmas.{page_write, page_writes_more, touched-append}
use Rattle.xen_front.proofs.in_one_go.straight.fill_page.Goals as goal

pub loop-word-preserved : goal.loop-word-preserved
loop-word-preserved g c =
    let log = g.B.Bus.log in
    let gives = g.B.Bus.access_gives in
    let p = c.args.sent.now in
    let k = c.args.piece.now.index in
    let j = c.loop-word.word in
    let frame = (buffer c.args.wiring.now.tx.now (id_of c.args.piece.now)).frame in
    let bus = c.loop-word.bus in
    let new = c.write.new.self in
    let i = c.loop-word.invariant in
    let raw = performs_one log gives bus (access.Write (page_word c.page-frame.result.frame j) c.word_at.result) new c.write.ensures.told c.write.ensures.given in
    let at = subst (λ (f : ℕ). Performs log gives bus (access.Write (page_word f j) c.word_at.result ∷ []) new) (ap (λ b. b.frame) c.page-frame.ensures) raw in
    let one = subst (λ (v : ℕ). Performs log gives bus (access.Write (page_word frame j) v ∷ []) new) c.word_at.ensures at in
    let both = performs_then log gives c.args.bus.now bus new (touched (page_writes p frame k j 0)) (touched (page_write p frame k j ∷ [])) i.wrote one in
    let whole = sym (ap touched (page_writes_more p frame k j) ∙ touched-append (page_writes p frame k j 0) (page_write p frame k j ∷ [])) in
    record {
      size = c.write.ensures.size ∙ i.size;
      wrote = subst (λ (l : List Access). Performs log gives c.args.bus.now l new) whole both;
    }
