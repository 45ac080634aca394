use Rattle.std.proofs.Common.{ap, ◌∙◌, length, subst, arith}
use Rattle.std.specs.Prelude.{replicate}
use Rattle.std.proofs.lemmas.List.{length-replicate}
use Rattle.xen_netif.proofs.CopyLemmas.{length-bytes_of}
use Rattle.xen_page.specs.Access.{Performs}
use Rattle.xen_host.proofs.BusLemmas.{unread, zero_bytes, zero_words}
use Rattle.xen_host.proofs.WordLemmas.{reads_run, run_below, run_bytes}
use Rattle.xen_host.proofs.over_bus.fill_from.Goals as goal

pub returns-then-are_in_bus : goal.returns-then-are_in_bus
returns-then-are_in_bus g c =
    let run = c.read_run.ensures.read in
    let told = run.told ∙ run_bytes run.words in
    record {
      words = run.words;
      all = omega (arith, ap length told, length-bytes_of run.words, c.read_run.ensures.length, c.requires.room);
      told = told;
      read = record {
        performed = λ h. subst (λ l. Performs g.B.Bus.log g.B.Bus.access_gives c.args.bus.now l c.read_run.new.self) (reads_run c.args.at run.words) run.performed;
        below = run_below run.words run.below;
        sized = c.read_run.ensures.size;
      };
    }

pub returns-else-are_in_bus : goal.returns-else-are_in_bus
returns-else-are_in_bus g c =
    let n = c.args.count in
    let many = length-replicate n 0 in
    record {
      words = replicate n 0;
      all = many;
      told = c.fill.ensures.after (λ y h. cc h) ∙ ap (λ m. replicate m 0) c.requires.room ∙ zero_bytes n;
      read = unread g.B.Bus.log g.B.Bus.access_gives g.B.Bus.size c.args.at (replicate n 0) c.args.bus.now (zero_words n)
          (λ h. let t = c.are_in_bus.ensures.1 (h.0, omega (arith, h.1, many)) in cc (t, c.if-are_in_bus.false));
    }
