use Rattle.std.proofs.Common.{◌≡◌, ◌∙◌, ap, sym}
use Rattle.std.proofs.lemmas.Slice.Eq.{slice_eq-Decides}
use Rattle.bpf_verify.specs.Consistent.{Accepted}
use Rattle.xen_host.proofs.ShareLemmas.{shape_eq}
use Rattle.xen_host.proofs.queue.Queue.has_maps_of.Goals as goal

pub returns : goal.returns
returns c =
    let a = c.shapes.ensures.same ∙ ap (λ (p : Accepted). p.shapes) c.verified.ensures in
    let b = c.shapes-2.ensures.same ∙ ap (λ (p : Accepted). p.shapes) c.verified-2.ensures in
    let same = slice_eq-Decides shape_eq c.shapes.result.now c.shapes-2.result.now c.eq.result c.eq.ensures in
    (λ t. sym a ∙ (same.0 t ∙ b), λ e. same.1 (a ∙ (e ∙ sym b)))
