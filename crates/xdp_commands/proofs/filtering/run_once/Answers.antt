use Rattle.std.proofs.Common.{◌∙◌, length, drop, ap, List, ℕ, ◌++◌, string_bytes}
use Rattle.xdp_load.specs.SetupSeen.{packet_view}
use Rattle.xdp_commands.specs.Filtering.{passed_text}
use Rattle.xdp_commands.proofs.FilterLemmas.{all_written, goes_once}
use Rattle.xdp_commands.proofs.filtering.run_once.Goals as goal

pub returns-clause-goes : goal.returns-clause-goes
returns-clause-goes c =
    let a = c.args in
    let ended = c.run_on-ended in
    let number = ended.result.number in
    let left = ended.result.packet.bytes in
    let line = string_bytes c.in_ok-line.line in
    let given = c.in-Ok.ensures.ok.0 ∙ c.as_slice.ensures.value in
    let ran = rw (given, c.as_mut_slice-words.ensures.value) at ended.ensures.ran in
    let is = c.in_ok-line.ensures ∙ ap (λ (bytes : List ℕ). passed_text (record { number = number; bytes = bytes })) c.bytes.ensures.same in
    let printed = c.in_ok-push_str.ensures.bytes ∙ ap (λ (xs : List ℕ). string_bytes a.filtered.now.lines ++ xs) c.as_str.ensures.value in
    let words = ended.new.counters in
    let whole = all_written words (drop (length words) a.filtered.now.words.items) a.filtered.now.words.len (ended.ensures.words ∙ c.as_mut_slice-words.ensures.len) in
    rw whole (goes_once a.program.now a.lists.now a.ifindex (packet_view a.packet.now) a.filtered.now.words.items (string_bytes a.filtered.now.lines) words _ left line number ended.result.instructions ran is printed)
