use Rattle.std.proofs.Common.{rules, ◌≡◌, ◌∙◌, length, map, ap, subst, sym}
use Rattle.std.specs.Box.{with_value}
use Rattle.std.specs.Prelude.{Contains}
use Rattle.bpf_note.specs.Join.{joined}
use Rattle.bpf_note.specs.Parts.{Noted, facts}
use Rattle.bpf_verify.specs.Gathered.{Arrives, dropped}
use Rattle.bpf_verify.proofs.BoxLemmas.{arrives_in_box, merges_in_box}
use Rattle.bpf_verify.proofs.note_list.NoteList.arrive.Goals as goal

pub returns-then-holds : goal.returns-then-holds
returns-then-holds c = subst (λ (n : Noted). Arrives (map facts c.args.self.now) (facts n) (map facts c.args.self.now)) c.deref.ensures (dropped (c.holds.ensures.0 c.if-holds.true))

pub returns-then-len-lt-MOST_NOTES : goal.returns-then-len-lt-MOST_NOTES
returns-then-len-lt-MOST_NOTES c =
    let new : Contains (map facts c.args.self.now) (facts c.args.note.value) → ⊥ =
    λ h. let t = c.holds.ensures.1 (subst (λ (n : Noted). Contains (map facts c.args.self.now) (facts n)) (sym c.deref.ensures) h) in cc (t, c.if-holds.false) in
    arrives_in_box c.args.self.now c.self.inside.notes.items c.push.new.self.items c.args.note c.self.view_is (search rules) c.in_ok-push.ensures.items new

pub returns : goal.returns
returns c =
    let new : Contains (map facts c.args.self.now) (facts c.args.note.value) → ⊥ =
    λ h. let t = c.holds.ensures.1 (subst (λ (n : Noted). Contains (map facts c.args.self.now) (facts n)) (sym c.deref.ensures) h) in cc (t, c.if-holds.false) in
    let full : length c.self.inside.notes.items ≡ 8 = search rules in
    let eighth = c.index_mut.result.now in
    let same : joined (facts c.deref_mut.result.now) (facts c.deref-2.result.now) ≡ joined (facts eighth.value) (facts c.args.note.value) =
    ap (λ (n : Noted). joined (facts n) (facts c.deref-2.result.now)) c.deref_mut.ensures.value ∙ ap (λ (n : Noted). joined (facts eighth.value) (facts n)) c.deref-2.ensures in
    merges_in_box c.args.self.now c.self.inside.notes.items eighth (with_value eighth c.join_in_place.new.a) c.args.note.value c.self.view_is full c.index_mut.ensures.value new (c.in_ok-join_in_place.ensures.ok ∙ same)
