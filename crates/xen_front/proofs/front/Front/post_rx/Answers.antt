use Rattle.std.proofs.Common.{◌≡◌, List, [], ◌∷◌, ℕ, take, get_or, refl, ◌∙◌, ap, arith}
use Rattle.xen_front.specs.Fronts.{all_free}
use Rattle.xen_front.specs.Rest.{posting}
use Rattle.xen_front.specs.Tree.{post}
use Rattle.xen_front.specs.declared.state.FrontState.{FrontState}
use Rattle.xen_front.proofs.BoundLemmas.{bounded_post}
use Rattle.xen_front.proofs.IdLemmas.{first_id}
use Rattle.xen_front.proofs.ShortLemmas.{short_begun}
use Rattle.xen_front.proofs.front.Front.post_rx.Goals as goal

first_taken : (l : List ℕ) → get_or (take 1 l) 0 0 ≡ get_or l 0 0
first_taken [] = refl
first_taken (y ∷ l) = refl

pub returns-in-Some-get-clause-ok : goal.returns-in-Some-get-clause-ok
returns-in-Some-get-clause-ok c =
    let f = c.args.self.now in
    let w = f.wiring in
    let s = f.state in
    let free = all_free s.rx.out in
    let found : c.in-Some-get.id.now ≡ get_or c.as_slice.result.now 0 0 = c.in-Some-get.ensures.lookup.3.1 0 in
    let id : c.in-Some-get.id.now ≡ get_or free 0 0 = found ∙ ap (λ (l : List ℕ). get_or l 0 0) (c.as_slice.ensures.value ∙ c.choose-ids.ensures) ∙ first_taken free in
    record {
      rest = c.begin_post-self.ensures.rest w c.fly_post.new.state f.sent f.received
          ∙ ap (λ (x : FrontState). posting w x c.in-Some-get.id.now s.rx.prod 0) c.fly_post.ensures
          ∙ ap (λ (i : ℕ). post w s i) id;
      wiring = refl;
    }

pub invariant_of-self-clause-short : goal.invariant_of-self-clause-short
invariant_of-self-clause-short c =
    let f = c.args.self.now in
    let w = f.wiring in
    let s = f.state in
    let free = all_free s.rx.out in
    let found : c.in-Some-get.id.now ≡ get_or c.as_slice.result.now 0 0 = c.in-Some-get.ensures.lookup.3.1 0 in
    let id : c.in-Some-get.id.now ≡ get_or free 0 0 = found ∙ ap (λ (l : List ℕ). get_or l 0 0) (c.as_slice.ensures.value ∙ c.choose-ids.ensures) ∙ first_taken free in
    short_begun w c.fly_post.new.state f.sent f.received c.begin_post-self.result (post w s (get_or free 0 0)) 7 f.wired (omega arith) (bounded_post w f.wired s (get_or free 0 0) (first_id s.rx.out))
    (c.begin_post-self.ensures.rest w c.fly_post.new.state f.sent f.received
    ∙ ap (λ (x : FrontState). posting w x c.in-Some-get.id.now s.rx.prod 0) c.fly_post.ensures
    ∙ ap (λ (i : ℕ). post w s i) id)
