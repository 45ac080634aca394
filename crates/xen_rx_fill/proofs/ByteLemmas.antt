-- A packet's words, as bytes, are the packet and then zeros.
use Rattle.std.proofs.Common.{◌≡◌, ℕ, zero, suc, ◌+◌, ◌-◌, ◌*◌, ◌^◌, ◌<◌, List, [], ◌∷◌, ◌++◌, length, replicate, get_or, refl, sym, ◌∙◌, ap, arith}
use Rattle.std.proofs.lemmas.Nat.{le_bytes_4}
use Rattle.std.specs.Int.{w32, to_le_bytes}
use Rattle.std.specs.Prelude.{slice_index}
use Rattle.xen_netif.specs.Copy.{bytes_of}
use Rattle.xen_netif.specs.declared.offload.RxOffload.{RxOffload}
use Rattle.xen_rx_fill.specs.Bytes.{SentBytes, values_written}
use Rattle.xen_rx_fill.specs.Packets.{word_of, words}
use Rattle.xen_rx_fill.specs.Sending.{buffer_writes}
use Rattle.xen_rx_fill.specs.declared.target.Target.{Target}

abbrev words_from : List ℕ → ℕ → ℕ → List ℕ
words_from packet k zero = []
words_from packet k (suc n) = word_of packet k ∷ words_from packet (k + 1) n

written_words : (o : RxOffload) (ts : List Target) (packet : List ℕ) (n k : ℕ) → values_written (buffer_writes o ts packet n k) ≡ words_from packet k n
written_words o ts packet zero k = refl
written_words o ts packet (suc n) k = ap (λ l. word_of packet k ∷ l) (written_words o ts packet n (k + 1))

-- four bytes of a word
pub four : (a b c d : ℕ) → a < 256 → b < 256 → c < 256 → d < 256 → to_le_bytes w32 (a + 2 ^ 8 * b + 2 ^ 16 * c + 2 ^ 24 * d) ≡ a ∷ b ∷ c ∷ d ∷ []
four a b c d h i j k = le_bytes_4 (a ∷ b ∷ c ∷ d ∷ []) (a + 2 ^ 8 * b + 2 ^ 16 * c + 2 ^ 24 * d) refl by (omega arith)
  where
    by : (n : ℕ) → get_or (a ∷ b ∷ c ∷ d ∷ []) n 0 < 256
    by zero = h
    by (suc zero) = i
    by (suc (suc zero)) = j
    by (suc (suc (suc zero))) = k
    by (suc (suc (suc (suc n)))) = omega arith

-- a word after the first is a word of what follows the first four bytes
word_after : (a b c d : ℕ) (rest : List ℕ) (k : ℕ) → word_of (a ∷ b ∷ c ∷ d ∷ rest) (k + 1) ≡ word_of rest k
word_after a b c d rest k =
    let packet = a ∷ b ∷ c ∷ d ∷ rest in
    let at : (i j : ℕ) → i ≡ suc (suc (suc (suc j))) → slice_index packet i ≡ slice_index rest j = λ i j e. ap (slice_index packet) e in
    let p = at (4 * (k + 1)) (4 * k) (omega arith) in
    let q = at (4 * (k + 1) + 1) (4 * k + 1) (omega arith) in
    let r = at (4 * (k + 1) + 2) (4 * k + 2) (omega arith) in
    let s = at (4 * (k + 1) + 3) (4 * k + 3) (omega arith) in
    omega (arith, p, q, r, s)

words_after : (a b c d : ℕ) (rest : List ℕ) (k n : ℕ) → words_from (a ∷ b ∷ c ∷ d ∷ rest) (k + 1) n ≡ words_from rest k n
words_after a b c d rest k zero = refl
words_after a b c d rest k (suc n) = ap (λ v. v ∷ words_from (a ∷ b ∷ c ∷ d ∷ rest) (k + 1 + 1) n) (word_after a b c d rest k) ∙ ap (λ l. word_of rest k ∷ l) (words_after a b c d rest (k + 1) n)

packet_bytes : (packet : List ℕ) → ((i : ℕ) → slice_index packet i < 256) → bytes_of (words_from packet 0 (words packet)) ≡ packet ++ replicate (4 * words packet - length packet) 0
packet_bytes [] h = refl
packet_bytes (a ∷ []) h = ap (λ l. l ++ []) (four a 0 0 0 (h 0) (omega arith) (omega arith) (omega arith))
packet_bytes (a ∷ b ∷ []) h = ap (λ l. l ++ []) (four a b 0 0 (h 0) (h 1) (omega arith) (omega arith))
packet_bytes (a ∷ b ∷ c ∷ []) h = ap (λ l. l ++ []) (four a b c 0 (h 0) (h 1) (h 2) (omega arith))
packet_bytes (a ∷ b ∷ c ∷ d ∷ rest) h =
    let packet = a ∷ b ∷ c ∷ d ∷ rest in
    let more : words packet ≡ suc (words rest) = omega arith in
    let first = four a b c d (h 0) (h 1) (h 2) (h 3) in
    let later = ap bytes_of (words_after a b c d rest 0 (words rest)) ∙ packet_bytes rest (λ i. h (suc (suc (suc (suc i))))) in
    let pad : 4 * words packet - length packet ≡ 4 * words rest - length rest = omega arith in
    ap (λ n. bytes_of (words_from packet 0 n)) more
    ∙ ap (λ l. l ++ bytes_of (words_from packet 1 (words rest))) first
    ∙ ap (λ l. a ∷ b ∷ c ∷ d ∷ l) later
    ∙ ap (λ n. packet ++ replicate n 0) (sym pad)

pub sent_bytes : SentBytes
sent_bytes o ts packet h = ap bytes_of (written_words o ts packet (words packet) 0) ∙ packet_bytes packet h
