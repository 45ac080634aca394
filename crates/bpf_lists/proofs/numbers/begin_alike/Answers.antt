use Rattle.std.proofs.Common.{arith, ◌≡◌, ◌%◌, ◌/◌, true, false, not, ◌∙◌, sym, ap, take}
use Rattle.std.proofs.lemmas.Slice.Eq.{bytes_eq-Decides}
use Rattle.std.proofs.lemmas.Bool.{eqb-true, eq-eqb, not-false}
use Rattle.bpf_lists.proofs.ValueLemmas.{alike_whole, alike_part, alike_take}
use Rattle.bpf_lists.proofs.numbers.begin_alike.Goals as goal

pub returns-then-ne : goal.returns-then-ne
returns-then-ne c =
    let bits = c.args.bits in
    let a = c.args.a.now in
    let b = c.args.b.now in (
      λ no. absurd cc,
      λ same.
          let starts = alike_take bits a b (λ k. (c.type_inv.a k).fits) (λ k. (c.type_inv.b k).fits) c.requires.same c.requires.within same in
          let yes = (bytes_eq-Decides (take (bits / 8) a) (take (bits / 8) b)).1 starts in
          let no = c.if-ne.ensures in
          let both : true ≡ false = no ∙ ap not yes in
          cc,
    )

pub returns-then-rest-eq0 : goal.returns-then-rest-eq0
returns-then-rest-eq0 c =
    let bits = c.args.bits in
    let a = c.args.a.now in
    let b = c.args.b.now in
    let rest = c.if-rest-eq0.true in
    let starts : take (bits / 8) a ≡ take (bits / 8) b = (bytes_eq-Decides _ _).0 (not-false _ (sym c.if-ne.ensures)) in (
      λ yes. (alike_whole (bits / 8) bits a b (λ k. (c.type_inv.a k).fits) (λ k. (c.type_inv.b k).fits) c.requires.same (omega arith) (omega arith)).1 starts,
      λ same. eq-eqb _ _ rest,
    )

pub returns-else-rest-eq0 : goal.returns-else-rest-eq0
returns-else-rest-eq0 c =
    let bits = c.args.bits in
    let a = c.args.a.now in
    let b = c.args.b.now in
    let rest = c.if-rest-eq0.false in
    let starts : take (bits / 8) a ≡ take (bits / 8) b = (bytes_eq-Decides _ _).0 (not-false _ (sym c.if-ne.ensures)) in
    let is = alike_part (bits / 8) (bits % 8) bits a b (λ k. (c.type_inv.a k).fits) (λ k. (c.type_inv.b k).fits) c.requires.same (omega arith) (omega arith) (omega arith) in
    (λ yes. is.1 (starts, eqb-true _ _ yes), λ same. eq-eqb _ _ (is.0 same).1)
