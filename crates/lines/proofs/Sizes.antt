-- How long each text is, and the most that it can be.
use Rattle.std.proofs.Common.{ℕ, suc, ◌+◌, ◌^◌, ◌≤◌, ◌<◌, ◌≡◌, refl, arith, length, length-append, ℤ, pos, negsuc, w32, to_z, of_z, to_z-of_z}
use lib.Signed.{mag}
use Rattle.lines.specs.Text.{decimal, signed, values_text, line_text, end_text, tail_text, input_text}
use Rattle.lines.specs.Buffer.{line_room, rest_room, end_room}
use Rattle.lines.proofs.Decimal.{size_most, size_64}

pub line_size : (number : ℕ) (code : ℤ) (x y : ℕ) → length (line_text number code x y) ≡ length (decimal number) + length (signed code) + length (decimal x) + length (decimal y) + 4
unfolding line_text
line_size number code x y = simp length-append (omega arith)

-- a sign and ten digits
pub code_most : (code : ℤ) → mag code < 2 ^ 31 → length (signed code) ≤ 11
unfolding signed
code_most (pos n) h = let d = size_most 9 n (omega arith) in omega arith
code_most (negsuc n) h = let d = size_most 9 (suc n) (omega arith) in omega arith

pub code_fits : (code : ℤ) → mag code < 2 ^ 31 → mag (to_z w32 (of_z w32 code)) < 2 ^ 31
code_fits code h = rw (to_z-of_z {w = w32} (record { sfits = h })) h

-- the most that follows a number: a code, two values of 20 digits, and the three bytes between and after them
pub rest_room_lem : (code : ℤ) (x y : ℕ) → mag code < 2 ^ 31 → x < 2 ^ 64 → y < 2 ^ 64 → length (values_text code x y) ≤ rest_room
rest_room_lem code x y hc hx hy = grind (arith, length-append, code_most, size_64)

-- and with the number of 20 digits and its space, the longest line
pub line_room_lem : (number : ℕ) (code : ℤ) (x y : ℕ) → number < 2 ^ 64 → mag code < 2 ^ 31 → x < 2 ^ 64 → y < 2 ^ 64 → length (line_text number code x y) ≤ line_room
unfolding line_text
line_room_lem number code x y hn hc hx hy = grind (arith, length-append, code_most, size_64)

pub end_room_lem : (cycles reading : ℕ) → cycles < 2 ^ 64 → reading < 2 ^ 64 → length (end_text cycles reading) ≤ end_room
unfolding end_text
end_room_lem cycles reading h k = grind (arith, length-append, size_64)

pub tail_size : length tail_text ≡ 9
unfolding tail_text signed decimal
tail_size = refl

pub input_size : length input_text ≡ 10
unfolding input_text signed decimal
input_size = refl
