use Rattle.std.proofs.Common.{◌≡◌, List, [], ◌∷◌, refl, ap, sym, ◌∙◌, length, map, subst, rules}
use Rattle.bpf_same.specs.Alone.{IsSameAlone}
use Rattle.bpf_same.specs.Counts.{IsSameByCounts, IsWholeByCounts}
use Rattle.bpf_same.specs.Renumbered.{IsRenumbering}
use Rattle.bpf_same.specs.Same.{IsSame}
use Rattle.bpf_same.specs.declared.witness.Witness.{Witness}
use Rattle.xdp_load.specs.OriginalSeen.{place_view}
use Rattle.xdp_load.specs.declared.original.OriginalPlace.{OriginalPlace as Read}
use Rattle.xdp_commands.specs.Comparing.{tried, tried_of}
use Rattle.xdp_commands.proofs.comparing.compare_with.Goals as goal

pub returns-in-Same : goal.returns-in-Same
returns-in-Same c =
    let new = c.args.program.now.code in
    let old = c.args.original.now in
    let of_setup = λ (a b : _). subst (λ s. IsSame s a b) c.requires.program.maps in
    record {
      program = c.args.program.now;
      original = old;
      pair = record { accepted = c.requires.program; spelled = c.requires.original };
      same = of_setup old new (c.in_ok-compare.ensures.same c.in-Same.is);
      whole = of_setup new old (c.in_ok-compare.ensures.whole c.in-Same.is);
      counted = c.slots.ensures.slots;
      originals_counted = ap length c.insns.ensures.same;
    }

pub returns-in-SameByCounts : goal.returns-in-SameByCounts
returns-in-SameByCounts c = record {
  program = c.args.program.now;
  original = c.args.original.now;
  pair = record { accepted = c.requires.program; spelled = c.requires.original };
  counts =
      subst (λ s. IsSameByCounts s c.args.original.now c.args.program.now.code) c.requires.program.maps
      (c.in_ok-compare.ensures.counts c.in-SameByCounts.is);
  whole =
      subst (λ s. IsWholeByCounts s c.args.program.now.code c.args.original.now) c.requires.program.maps
      (c.in_ok-compare.ensures.counts_whole c.in-SameByCounts.is);
  counted = c.slots-in-SameByCounts.ensures.slots;
  originals_counted = ap length c.insns-in-SameByCounts.ensures.same;
}

pub returns-in-SameAlone : goal.returns-in-SameAlone
returns-in-SameAlone c = record {
  program = c.args.program.now;
  original = c.args.original.now;
  pair = record { accepted = c.requires.program; spelled = c.requires.original };
  alone =
      subst (λ s. IsSameAlone s c.args.original.now c.args.program.now.code) c.requires.program.maps
      (c.in_ok-compare.ensures.alone c.in-SameAlone.is);
  whole =
      subst (λ s. IsSameAlone s c.args.program.now.code c.args.original.now) c.requires.program.maps
      (c.in_ok-compare.ensures.alone_whole c.in-SameAlone.is);
  counted = c.slots-in-SameAlone.ensures.slots;
  originals_counted = ap length c.insns-in-SameAlone.ensures.same;
}

two_maps : (xs : List Read) → map tried (map place_view xs) ≡ map tried_of xs
two_maps [] = refl
two_maps (x ∷ xs) = ap (λ (ys : List Witness). tried_of x ∷ ys) (two_maps xs)

pub returns : goal.returns
returns c = record {
  program = c.args.program.now;
  original = c.args.original.now;
  pair = record { accepted = c.requires.program; spelled = c.requires.original };
  other = λ e. let same = c.in_ok-compare.ensures.itself e in cc (same, c.in-NotShown.is);
  renumbered = λ h.
      let same = c.in_ok-compare.ensures.renumbered (subst (λ (p : List Witness). IsRenumbering p c.args.original.now c.args.program.now.code) (two_maps c.args.rewritten.now.places.items ∙ (ap (map tried_of) (sym c.as_slice.ensures.value) ∙ (sym c.in_ok-witnesses.ensures ∙ sym c.as_slice-2.ensures.value))) h) in
      cc (same, c.in-NotShown.is);
  stops = search rules;
}
