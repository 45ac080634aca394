use Rattle.std.proofs.Common.{arith, ap, sym, length, Bool, subst, refl}
use Rattle.bpf_insn.specs.Size.{size_bytes}
use Rattle.bpf_insn.specs.declared.size.Size.{Size}
use Rattle.bpf_note.specs.Regions.{Place, load_place}
use Rattle.bpf_vm.specs.Wants.{IsWantAt, IsWantOf}
use Rattle.bpf_vm.specs.declared.want.VmWant.{VmWant}
use Rattle.bpf_vm.specs.declared.want.VmWant.TheVariants.{Load}
use Rattle.bpf_vm.proofs.ByteLemmas.{some_bytes}
use Rattle.bpf_vm.proofs.RegionLemmas.{wanted_below, plain_above, somewhere_above, counter_above}
use Rattle.bpf_vm.proofs.machine.Machine.want_at.Goals as goal

pub counter_at-m-requires-clause-there : goal.counter_at-m-requires-clause-there
counter_at-m-requires-clause-there c =
    let len = length c.args.self.now.packet.bytes in
    let shapes = c.args.self.now.shapes.now in
    let size = c.requires.there.0 in
    let p = counter_above len shapes c.args.address (size_bytes size) (omega (arith, c.bytes-packet.ensures.short, ap length c.bytes-packet.ensures.same)) (some_bytes size) (omega arith) (somewhere_above len shapes c.args.address (size_bytes size) (some_bytes size) (omega arith) c.requires.there.1) in
    (size_bytes size, p)

pub returns-then-address-lt-VALUES_START : goal.returns-then-address-lt-VALUES_START
returns-then-address-lt-VALUES_START c = λ (size : Size) there. wanted_below (length c.args.self.now.packet.bytes) c.args.self.now.shapes.now c.args.address (size_bytes size) (omega arith) there

pub returns-else-address-lt-VALUES_START : goal.returns-else-address-lt-VALUES_START
returns-else-address-lt-VALUES_START c = λ (size : Size) there.
    let len = length c.args.self.now.packet.bytes in
    let shapes = c.args.self.now.shapes.now in
    let p = counter_above len shapes c.args.address (size_bytes size) (omega (arith, c.bytes-packet.ensures.short, ap length c.bytes-packet.ensures.same)) (some_bytes size) (omega arith) (somewhere_above len shapes c.args.address (size_bytes size) (some_bytes size) (omega arith) there) in
    let at = c.counter_at-m.ensures (size_bytes size) p in
    let want : VmWant = Load c.counter_at-m.result.0 c.counter_at-m.result.1 c.counter_at-m.result.2 in
    let plain = plain_above shapes c.args.address (size_bytes size) (some_bytes size) (omega arith) in
    subst (λ (b : Bool). IsWantOf b (load_place len shapes c.args.address (size_bytes size)) want) (sym plain) (subst (λ (q : Place). IsWantAt q want) (sym at) (refl, refl, refl))
