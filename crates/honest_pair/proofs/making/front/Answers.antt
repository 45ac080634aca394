use Rattle.std.proofs.Common.{◌≡◌, ◌∙◌, ℕ, ◌+◌, refl, ap, subst, arith, Result, Ok, Err, IfOk}
use Rattle.std.proofs.lemmas.List.FromFn.{get_or-map-range_with_len}
use Rattle.xen_buffers.specs.Grants.{buffer}
use Rattle.xen_buffers.specs.declared.wiring.GrantedPage.{GrantedPage}
use Rattle.std.specs.declared.alloc.AllocError.{AllocError}
use Rattle.xen_buffers.specs.declared.desc.FrontDesc.{FrontDesc}
use Rattle.xen_front.specs.Fronts.{state_of}
use Rattle.xen_front.specs.Making.{IsMade, IsNew}
use Rattle.xen_front.specs.declared.front.Front.{Front}
use Rattle.xen_netif.specs.declared.offload.Accepts.{Accepts}
use Rattle.honest_pair.specs.Machine.Layout.{table_frames}
use Rattle.honest_pair.specs.Made.{IsFresh}
use Rattle.xdp_world.specs.Buffers.{granted, granted_from}
use Rattle.xdp_world.proofs.WiringLemmas.{is_wired}
use Rattle.honest_pair.proofs.making.front.Goals as goal

pub make-requires : goal.make-requires
make-requires c =
    is_wired 1 0 _ (omega arith) (omega arith) refl refl refl (c.table.ensures) c.requires.tx c.requires.rx

abbrev lent : ℕ → ℕ → GrantedPage
lent g n = record { gref = g; frame = n }

granted_is : (g n : ℕ) → 17 + g ≡ n → granted g ≡ lent g n
granted_is g n e = ap (lent g) e

fresh : (start : ℕ) (r : Result Front AllocError) (d : FrontDesc) (told : Accepts) → d.frames ≡ 531 → d.tx_frame ≡ 17 → d.rx_frame ≡ 18 → d.table.now ≡ table_frames → d.tx.now ≡ granted_from 2 → d.rx.now ≡ granted_from 258 → d.back ≡ 0 → d.port ≡ 0 → d.start ≡ start →
    IfOk r (IsMade d told) → IfOk r (IsFresh start)
fresh start (Ok f) d told a b c t x y k p s h = record {
  laid = record {
    frames = h.frames ∙ a;
    tx_ring = h.rings.0 ∙ b;
    rx_ring = h.rings.1 ∙ c;
    table = h.grants.0 ∙ t;
    tx = λ id l. ap (λ z. buffer z id) (h.grants.1 ∙ x) ∙ get_or-map-range_with_len granted 2 256 id (2 + id) _ l refl ∙ granted_is (2 + id) (19 + id) (omega arith);
    rx = λ id l. ap (λ z. buffer z id) (h.grants.2 ∙ y) ∙ get_or-map-range_with_len granted 258 256 id (258 + id) _ l refl ∙ granted_is (258 + id) (275 + id) (omega arith);
    back = h.back.0 ∙ k;
    port = h.back.1 ∙ p;
    wired = f.wired;
  };
  new = record { tx = subst (IsNew (state_of f).tx) s h.tx; rx = subst (IsNew (state_of f).rx) s h.rx; halt = h.running; tx_size = h.tx.size; rx_size = h.rx.size };
  free = h.free;
}
fresh start (Err e) d told a b c t x y k p s h = tt

pub returns : goal.returns
returns c = fresh c.args.start c.make.result _ _ refl refl refl (c.table.ensures) c.requires.tx c.requires.rx refl c.in-Some.ensures.1 refl c.make.ensures
