use Rattle.std.proofs.Common.{◌≡◌, ◌∙◌, ◌-◌, ap, sym, subst, ◌++◌, List, take, drop, length, arith}
use Rattle.std.proofs.lemmas.List.{length-take, length-drop}
use Rattle.bpf_note.specs.declared.bound.Bound.{Bound}
use Rattle.bpf_note.specs.Parts.{IsNormal}
use Rattle.bpf_note.specs.Bounds.{AreJoined, IsJoinedFront}
use Rattle.bpf_note.proofs.KeptLemmas.{rest_normal, cut_front, fronts_joined}
use Rattle.bpf_note.proofs.bounds.join_bounds.Goals as goal

pub covers_bounds-requires-clause-a : goal.covers_bounds-requires-clause-a
covers_bounds-requires-clause-a c = rest_normal c.args.a.now c.kept_front-i.result.0 c.requires.a

pub covers_bounds-requires-clause-b : goal.covers_bounds-requires-clause-b
covers_bounds-requires-clause-b c = rest_normal c.args.b.now c.kept_front-i.result.1 c.requires.b

pub pair_front-same-requires-clause-own : goal.pair_front-same-requires-clause-own
pair_front-same-requires-clause-own c =
    let i = c.kept_front-i.result.0 in
    let whole : c.deref_mut.result.now ≡ c.args.a.now = c.deref_mut.ensures.value ∙ c.in_ok-extend_from_slice.ensures.items ∙ ap (λ (zs : List Bound). zs ++ c.args.a.now) c.in_ok-joined.ensures.items in
    subst (λ (xs : List Bound). IsNormal (take (length xs - i) (drop i xs))) (sym whole) (rest_normal c.args.a.now i c.requires.a)

pub pair_front-same-requires-clause-others : goal.pair_front-same-requires-clause-others
pair_front-same-requires-clause-others c = rest_normal c.args.b.now c.kept_front-i.result.1 c.requires.b

pub push_joined-requires-clause-a : goal.push_joined-requires-clause-a
push_joined-requires-clause-a c = rest_normal _ c.pair_front-same.result (rest_normal c.args.a.now c.kept_front-i.result.0 c.requires.a)

pub push_joined-requires-clause-b : goal.push_joined-requires-clause-b
push_joined-requires-clause-b c = rest_normal _ c.pair_front-same.result (rest_normal c.args.b.now c.kept_front-i.result.1 c.requires.b)

pub returns-clause-some : goal.returns-clause-some
returns-clause-some c =
    let i = c.kept_front-i.result.0 in
    let n = c.pair_front-same.result in
    let zs = c.in_ok-push_joined.ensures.0 in
    let added : c.push_joined.new.joined.items ≡ c.truncate.new.self.items ++ zs = c.in_ok-push_joined.ensures.1 in
    let whole : c.deref_mut.result.now ≡ c.args.a.now = c.deref_mut.ensures.value ∙ c.in_ok-extend_from_slice.ensures.items ∙ ap (λ (zs : List Bound). zs ++ c.args.a.now) c.in_ok-joined.ensures.items in
    let own = c.pair_front-same.new.own in
    let size = ap (λ (xs : List Bound). length xs) whole in
    let inside = c.kept_front-i.ensures.inside.0 in
    let few = c.pair_front-same.ensures.inside.0 in
    let same = c.pair_front-same.auto.own in
    let len = c.deref_mut.ensures.len in
    let rest = length-take (length c.deref_mut.result.now - i) (drop i c.deref_mut.result.now) in
    let dropped = length-drop i c.deref_mut.result.now in
    let cut : c.truncate.new.self.items ≡ take i c.deref_mut.result.now ++ take n c.pair_front-same.new.own =
    cut_front c.truncate.new.self.items c.deref_mut.result.now own _ _ i n c.extend_from_slice.new.self.len (omega arith) (omega arith) (omega arith) c.truncate.ensures.items in
    let front : IsJoinedFront (take (length c.args.a.now - i) (drop i c.args.a.now)) (take (length c.args.b.now - c.kept_front-i.result.1) (drop c.kept_front-i.result.1 c.args.b.now)) n n (take n own) =
    subst (λ (xs : List Bound). IsJoinedFront (take (length xs - i) (drop i xs)) (take (length c.args.b.now - c.kept_front-i.result.1) (drop c.kept_front-i.result.1 c.args.b.now)) n n (take n own)) whole c.pair_front-same.ensures.front in
    let joined = fronts_joined c.args.a.now c.args.b.now (take n own) zs i c.kept_front-i.result.1 n c.kept_front-i.ensures.front front c.in_ok-push_joined.ensures.2 in
    subst (AreJoined c.args.a.now c.args.b.now) (sym (added ∙ ap (λ (ws : List Bound). ws ++ zs) (cut ∙ ap (λ (xs : List Bound). take i xs ++ take n own) whole))) joined
