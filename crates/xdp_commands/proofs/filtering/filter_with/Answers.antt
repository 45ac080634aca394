use Rattle.std.proofs.Common.{◌∙◌, ◌≡◌, List, ℕ, length, map, ap, sym, subst}
use Rattle.std.specs.Prelude.{slice_index}
use Rattle.bpf_maps.specs.Beginning.{given}
use Rattle.bpf_maps.specs.Layout.{place_of, total}
use Rattle.bpf_note.specs.Shape.{IsCounter, Shape}
use Rattle.xdp_commands.proofs.filtering.filter_with.Goals as goal

pub returns : goal.returns
returns c =
    let shapes : List Shape = c.args.listed.now.setup.shapes.items in
    let first = c.in_ok-first.first in
    let words = c.into_numbers.result in
    let here = c.as_slice.ensures.value in
    let same = c.in_ok-first.ensures.shapes ∙ here in
    let count : length words.items ≡ total shapes = c.into_numbers.ensures.count ∙ ap total same in
    record {
      program = c.args.program.now;
      accepted = c.requires.program;
      width = c.run_all.ensures.words ∙ (words.ok.0 ∙ count);
      words = words.items;
      first = record {
        count = count;
        begin = λ m k j is.
            ap (λ (l : List ℕ). slice_index l (place_of shapes m k j)) c.into_numbers.ensures.numbers
            ∙ (ap (λ (ss : List Shape). slice_index first.values (place_of ss m k j)) (sym same)
            ∙ (c.in_ok-first.ensures.begins m k j (subst (λ (ss : List Shape). IsCounter ss m k j) (sym here) is)
            ∙ (ap (λ (ss : List Shape). given ss (map (λ l. l.items) c.as_slice-2.result.now) m k j) here
            ∙ ap (λ ls. given shapes (map (λ l. l.items) ls) m k j) c.as_slice-2.ensures.value)));
      };
      goes = rw c.new.ensures.bytes at c.in_ok-run_all.ensures.goes;
    }
