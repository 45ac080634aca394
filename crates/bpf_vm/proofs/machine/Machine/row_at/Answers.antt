use Rattle.std.specs.Prelude.{slice_get}
use Rattle.std.proofs.lemmas.Option.{slice_get-get_or}
use Rattle.std.proofs.lemmas.List.{length-take, length-drop}
use Rattle.std.proofs.Common.{arith, ap, sym, ◌∙◌, ◌≡◌, ◌≤◌, ◌+◌, ◌-◌, length, take, drop, get_or, Some, List, ℕ, subst}
use Rattle.bpf_note.specs.Bytes.{bytes_at}
use Rattle.bpf_note.specs.Keys.{key_size}
use Rattle.bpf_note.specs.Shape.{Shape}
use Rattle.bpf_note.specs.declared.key.MapKey.{MapKey}
use Rattle.bpf_flow.specs.Step.{row_of}
use Rattle.bpf_vm.specs.Running.{machine_state}
use Rattle.bpf_vm.proofs.ByteLemmas.{bytes_of_list}
use Rattle.bpf_vm.proofs.machine.Machine.row_at.Goals as goal

pub overflow_add-end : goal.overflow_add-end
overflow_add-end c =
    let shapes = c.args.self.now.shapes.now in
    let shape = get_or shapes c.args.m c.index-self-m.result in
    let there : slice_get shapes c.args.m ≡ Some shape = slice_get-get_or shapes c.args.m c.index-self-m.result c.requires.map in
    let size : c.size.result ≡ key_size shape.key = c.size.ensures.value ∙ ap (λ (k : MapKey). key_size k) c.key-by.ensures.value in
    omega (arith, c.requires.inside shape there, size)

pub slice_bounds-key-end : goal.slice_bounds-key-end
slice_bounds-key-end c =
    let shapes = c.args.self.now.shapes.now in
    let shape = get_or shapes c.args.m c.index-self-m.result in
    let there : slice_get shapes c.args.m ≡ Some shape = slice_get-get_or shapes c.args.m c.index-self-m.result c.requires.map in
    let size : c.size.result ≡ key_size shape.key = c.size.ensures.value ∙ ap (λ (k : MapKey). key_size k) c.key-by.ensures.value in
    omega (arith, c.requires.inside shape there, size, c.stack-stack.ensures.whole, ap length c.stack-stack.ensures.same)

pub row_of-requires-clause-sized : goal.row_of-requires-clause-sized
row_of-requires-clause-sized c =
    let shapes = c.args.self.now.shapes.now in
    let shape = get_or shapes c.args.m c.index-self-m.result in
    let stack = c.stack-stack.result.now in
    let place = c.args.place in
    let z = c.size.result in
    let there : slice_get shapes c.args.m ≡ Some shape = slice_get-get_or shapes c.args.m c.index-self-m.result c.requires.map in
    let size : z ≡ key_size shape.key = c.size.ensures.value ∙ ap (λ (k : MapKey). key_size k) c.key-by.ensures.value in
    let inside : place + z ≤ length stack = omega (arith, c.requires.inside shape there, size, c.stack-stack.ensures.whole, ap length c.stack-stack.ensures.same) in
    let long : length (take (place + z - place) (drop place stack)) ≡ z = omega (arith, inside, length-take (place + z - place) (drop place stack), length-drop place stack) in
    long ∙ c.size.ensures.value

pub returns : goal.returns
returns c = λ other e.
    let shapes = c.args.self.now.shapes.now in
    let shape = get_or shapes c.args.m c.index-self-m.result in
    let stack = c.stack-stack.result.now in
    let place = c.args.place in
    let z = c.size.result in
    let there : slice_get shapes c.args.m ≡ Some shape = slice_get-get_or shapes c.args.m c.index-self-m.result c.requires.map in
    let size : z ≡ key_size shape.key = c.size.ensures.value ∙ ap (λ (k : MapKey). key_size k) c.key-by.ensures.value in
    let inside : place + key_size shape.key ≤ length stack = omega (arith, c.requires.inside shape there, c.stack-stack.ensures.whole, ap length c.stack-stack.ensures.same) in
    let same : shape ≡ other = cc (there, e) in
    let key : List ℕ = take (place + z - place) (drop place stack) in
    let cut : key_size shape.key ≡ place + z - place = omega (arith, size) in
    let read : bytes_at (slice_get c.args.self.now.packet.stack) place (key_size shape.key) ≡ Some key =
    ap (λ (bytes : List ℕ). bytes_at (slice_get bytes) place (key_size shape.key)) (sym c.stack-stack.ensures.same) ∙ (bytes_of_list stack place (key_size shape.key) inside ∙ ap (λ (n : ℕ). Some (take n (drop place stack))) cut) in
    let row = c.row_of.ensures ∙ ap (λ (k : MapKey). row_of (machine_state 0 c.args.self.now) c.args.m k key) c.key-by.ensures.value in
    subst (λ (s : Shape). (key : List ℕ) × (bytes_at (slice_get c.args.self.now.packet.stack) place (key_size s.key) ≡ Some key) × (c.row_of.result ≡ row_of (machine_state 0 c.args.self.now) c.args.m s.key key)) same (key, read, row)
