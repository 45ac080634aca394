-- Stated: claims rest on this file.
-- A packet's bytes as the words of posted buffers, and the responses to them. A packet takes a slot for each of its pages. One that is to
-- be segmented takes another for the extra, which comes right behind the first (netif.h, "Guest receive"; Linux's xenvif_rx_skb).
use Rattle.std.specs.Prelude.{ℕ, ℤ, pos, ◌+◌, ◌-◌, ◌*◌, ◌/◌, ◌%◌, ◌^◌, Bool, false, List, length, Option, Some, None}
use Rattle.std.specs.Prelude.{nat_lt, ◌&&◌, ◌==◌, slice_index, slice_index_or, take, if◌then◌else◌}
use Rattle.xen_netif.specs.Offloads.{has_extra, rx_extra, rx_flags_at}
use Rattle.xen_netif.specs.Segments.{gso_extra_words}
use Rattle.xen_netif.specs.Slots.{rx_rsp_words, status_code}
use Rattle.xen_netif.specs.declared.offload.RxOffload.{RxOffload}
use Rattle.xen_netif.specs.declared.offload.RxOffload.TheVariants.{Whole}
use Rattle.xen_netif.specs.declared.rx.RxRsp.{RxRsp}
use Rattle.xen_netif.specs.declared.segments.GsoExtra.{GsoExtra}
use Rattle.xen_netif.specs.declared.status.Status.TheVariants.{Error}
use Rattle.xen_page.specs.declared.place.Place.{Place}
use Rattle.xen_steps.specs.Places.{page_word}
use Rattle.xen_rx_fill.specs.declared.target.Grants.{Grants}
use Rattle.xen_rx_fill.specs.declared.target.Grants.TheVariants.{Passed, Refused}
use Rattle.xen_rx_fill.specs.declared.target.Target.{Target}

-- how many pages of 4,096 bytes, and words of four, a packet takes
abbrev pub pages : List ℕ → ℕ
pages packet = (length packet + 4095) / 4096

abbrev pub words : List ℕ → ℕ
words packet = (length packet + 3) / 4

-- how many slots the first n pages take
abbrev pub slots_for : RxOffload → ℕ → ℕ
slots_for o n = if has_extra o then n + 1 else n

abbrev pub slots : RxOffload → List ℕ → ℕ
slots o packet = slots_for o (pages packet)

-- whether the i-th slot takes the extra, and no page
abbrev pub takes_extra : RxOffload → ℕ → Bool
takes_extra o i = has_extra o && i == 1

-- the page that the i-th slot takes
abbrev pub page_in : RxOffload → ℕ → ℕ
page_in o i = if has_extra o then i - 1 else i

-- the slot that takes a page
abbrev pub slot_of : RxOffload → ℕ → ℕ
slot_of o page = if has_extra o && nat_lt 0 page then page + 1 else page

-- the k-th word, low byte first; bytes past the packet's end are 0
abbrev pub word_of : List ℕ → ℕ → ℕ
word_of packet k =
    slice_index packet (4 * k) + 2 ^ 8 * slice_index packet (4 * k + 1) + 2 ^ 16 * slice_index packet (4 * k + 2) + 2 ^ 24 *
    slice_index packet (4 * k + 3)

-- how many bytes lie in the i-th page
abbrev pub size_at : List ℕ → ℕ → ℕ
size_at packet i = if nat_lt (length packet) (4096 * i + 4096) then length packet - 4096 * i else 4096

-- the i-th slot, which is there
abbrev pub target_at : List Target → ℕ → Target
target_at targets i = slice_index_or targets i (record { id = 0; frame = None })

-- its frame, which was checked
abbrev pub frame_in : Option ℕ → ℕ
frame_in None = 0
frame_in (Some frame) = frame

-- where the k-th word of a packet goes: 1,024 words per buffer, in order
abbrev pub buffer_word : RxOffload → List Target → ℕ → Place
buffer_word o targets k = page_word (frame_in (target_at targets (slot_of o (k / 1024))).frame) (k % 1024)

-- the status of the response to a page's slot: how many bytes, or ERROR
abbrev pub status_at : Grants → List ℕ → (page : ℕ) → ℤ
status_at Passed packet page = pos (size_at packet page)
status_at Refused packet page = status_code Error

-- whether the response to a page's slot, one of n, says that there is more: all but the last of a packet that is sent
abbrev pub has_more : RxOffload → Grants → ℕ → (page : ℕ) → Bool
has_more o Passed n page = nat_lt (slots_for o (page + 1)) n
has_more o Refused n page = false

-- what the responses say of the offload: nothing, if they say ERROR
abbrev pub said : Grants → RxOffload → RxOffload
said Passed o = o
said Refused o = Whole

-- the response to a page's slot, one of n
abbrev pub rx_response : RxOffload → Grants → List ℕ → ℕ → (page : ℕ) → ℕ → RxRsp
rx_response o grants packet n page id =
    record { id = id; offset = 0; flags = rx_flags_at (said grants o) page (has_more o grants n page); status = status_at grants packet page }

-- the extra that the i-th slot takes
abbrev pub extra_at : RxOffload → ℕ → Option GsoExtra
extra_at o i = if i == 1 then rx_extra o else None

-- An extra lies in the two words of a response, and has no id.
abbrev pub words_or : Option GsoExtra → List ℕ → List ℕ
words_or None words = words
words_or (Some extra) words = take 2 (gso_extra_words extra)

-- the words of the i-th of n responses
abbrev pub response_words : RxOffload → Grants → List ℕ → ℕ → ℕ → ℕ → List ℕ
response_words o grants packet n i id = words_or (extra_at (said grants o) i) (rx_rsp_words (rx_response o grants packet n (page_in o i) id))

abbrev pub response_word : RxOffload → Grants → List ℕ → ℕ → ℕ → ℕ → ℕ → ℕ
response_word o grants packet n i id j = slice_index (response_words o grants packet n i id) j
