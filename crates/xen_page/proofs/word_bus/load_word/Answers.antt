use Rattle.std.proofs.Common.{subst, ◌∷◌, []}
use Rattle.xen_page.proofs.RunLemmas.{read_more}
use Rattle.xen_page.proofs.WordLemmas.{place_further}
use Rattle.xen_page.specs.Access.{Tells}
use Rattle.xen_page.specs.Numbered.{place_at}
use Rattle.xen_page.specs.declared.access.Access.TheVariants as access
use Rattle.xen_page.specs.declared.place.Place.{Place}
use Rattle.xen_page.proofs.word_bus.load_word.Goals as goal

pub returns-clause-read : goal.returns-clause-read
returns-clause-read g c first start h =
    let v = c.load-word.result in
    let here = place_further c.args.first c.args.number c.requires.word in
    let told = subst (λ (at : Place). Tells (g.W.Words.log c.args.words.now) (g.W.Words.log c.load-word.new.self) (access.Read at v ∷ [])) here c.load-word.ensures.told in
    let given = subst (λ (at : Place). g.W.Words.step_gives c.args.words.now (access.Read at v) c.load-word.new.self) here c.load-word.ensures.given in
    rw c.put_word.ensures (read_more g.W.Words.log g.W.Words.step_gives (place_at c.args.first) c.args.number v first c.args.words.now
    c.load-word.new.self start c.args.room.now h c.load-word.type_inv told given)
