-- What lines, words, numbers and bytes are in the programs' text. Assumes nothing.
use Rattle.std.specs.Prelude.{◌≡◌, ℕ, zero, suc, ◌+◌, ◌-◌, ◌*◌, ◌/◌, ◌%◌, ◌<◌, Bool, cond, not, ◌&&◌, ◌||◌, List, [], ◌∷◌, length, take, drop, Some, None, Option, is_some, option_map, option_and_then, ◌==◌, nat_eq, nat_le, nat_lt, slice_index}
use Rattle.std.specs.List.{prefix_len}

-- ---- lines and words

-- how many bytes stand before the first that is b
abbrev pub before : ℕ → List ℕ → ℕ
before b = prefix_len (λ x. not (x == b))

-- how many bytes from the first on are b
abbrev pub run : ℕ → List ℕ → ℕ
run b = prefix_len (λ x. nat_eq x b)

-- the first line, or nothing where no byte is left; and what follows it and its newline
abbrev pub line : List ℕ → Option (List ℕ)
line bs = cond (length bs == 0) None (Some (take (before 10 bs) bs))

abbrev pub after_line : List ℕ → List ℕ
after_line bs = drop (before 10 bs + 1) bs

-- a line is passed over if it is empty or begins with #
abbrev pub passed_over : List ℕ → Bool
passed_over l = length l == 0 || slice_index l 0 == 35

-- what is left after leading spaces
abbrev pub unspaced : List ℕ → List ℕ
unspaced bs = drop (run 32 bs) bs

-- the first word, or nothing where only spaces are left; and what follows it
abbrev pub word : List ℕ → Option (List ℕ)
word bs = cond (length (unspaced bs) == 0) None (Some (take (before 32 (unspaced bs)) (unspaced bs)))

abbrev pub after_word : List ℕ → List ℕ
after_word bs = drop (before 32 (unspaced bs)) (unspaced bs)

-- ---- numbers

abbrev pub is_digit : ℕ → Bool
is_digit b = nat_le 48 b && nat_le b 57

-- the number that digits write after n, none where a byte is no digit or the number passes the most
unfoldable pub decimal_from : ℕ → ℕ → List ℕ → Option ℕ
decimal_from most n [] = Some n
decimal_from most n (b ∷ bs) = cond (is_digit b && nat_le (n * 10 + (b - 48)) most) (decimal_from most (n * 10 + (b - 48)) bs) None

-- a decimal number has a digit at least
abbrev pub number : ℕ → List ℕ → Option ℕ
number most bs = cond (length bs == 0) None (decimal_from most 0 bs)

-- ---- the words of a line, one after another

-- the next word as a number; nothing where no word is left, or it is no number
abbrev pub next_number : List ℕ → Option ℕ
next_number bs = option_and_then (number 4294967295) (word bs)

-- the next word as a byte
abbrev pub next_byte : List ℕ → Option ℕ
next_byte bs = option_and_then (λ n. cond (nat_lt n 256) (Some n) None) (next_number bs)

-- the next k words as bytes
abbrev pub next_bytes : ℕ → List ℕ → Option (List ℕ)
next_bytes zero bs = Some []
next_bytes (suc k) bs = option_and_then (λ b. option_map (λ rest. b ∷ rest) (next_bytes k (after_word bs))) (next_byte bs)

-- what follows them, or follows the first word that is no byte
abbrev pub after_bytes : ℕ → List ℕ → List ℕ
after_bytes zero bs = bs
after_bytes (suc k) bs = cond (is_some (next_byte bs)) (after_bytes k (after_word bs)) (after_word bs)

-- ---- bytes

-- the value of a hexadecimal digit, of either case
abbrev pub nibble : ℕ → Option ℕ
nibble b =
    cond (is_digit b) (Some (b - 48)) (
    cond (nat_le 65 b && nat_le b 70) (Some (b - 55)) (
    cond (nat_le 97 b && nat_le b 102) (Some (b - 87)) None))

abbrev pub joined : Option ℕ → Option ℕ → Option (List ℕ) → Option (List ℕ)
joined (Some h) (Some l) (Some bs) = Some ((h * 16 + l) ∷ bs)
joined (Some h) (Some l) None = None
joined (Some h) None bs = None
joined None l bs = None

-- two digits for each byte
unfoldable pub pairs : List ℕ → Option (List ℕ)
pairs [] = Some []
pairs (x ∷ []) = None
pairs (x ∷ y ∷ xs) = joined (nibble x) (nibble y) (pairs xs)

-- the most bytes that a word may write
abbrev pub most_bytes : ℕ
most_bytes = 200

abbrev pub is_hyphen : List ℕ → Bool
is_hyphen w = length w == 1 && slice_index w 0 == 45

abbrev pub is_sized : List ℕ → Bool
is_sized w = nat_lt 0 (length w) && nat_le (length w) (2 * most_bytes)

-- the bytes that a word writes: a hyphen stands for none
abbrev pub bytes_of : List ℕ → Option (List ℕ)
bytes_of w = cond (is_hyphen w) (Some []) (cond (is_sized w) (pairs w) None)

-- the digit of a value, a capital from ten on
abbrev pub digit_of : ℕ → ℕ
digit_of v = cond (nat_lt v 10) (48 + v) (55 + v)

-- bytes in hexadecimal
unfoldable pub hex_text : List ℕ → List ℕ
hex_text [] = []
hex_text (b ∷ bs) = digit_of (b / 16) ∷ digit_of (b % 16) ∷ hex_text bs

-- bytes printed and read again are the same bytes
abbrev pub HexReadsBack : Type 0
HexReadsBack = (bs : List ℕ) → ((i : ℕ) → slice_index bs i < 256) → pairs (hex_text bs) ≡ Some bs
