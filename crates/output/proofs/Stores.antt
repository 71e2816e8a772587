-- Laws of bytes put on a page one after the other.
use mathlib.Core.Path.{◌≡◌, refl, sym, ap, ◌∙◌}
use mathlib.Core.Bool.{Bool, true, false, cond}
use mathlib.Core.List.{List, [], ◌∷◌, ◌++◌, append-nil}
use Prim.Native.Nat.{ℕ, suc, ◌+◌, ◌≤◌, ◌<◌}
use native.Mathlib.Numerals.{add-one}
use native.Mathlib.Omega.{arith}
use borrow.Author.Tests.{ltb-true, lt-ltb}
use lib.Dec.{ltb}
use lib.ListN.{length, take, set, get_or, length-set, take-append-drop}
use lib.Seq.{take-suc, take-suc-set, append_snoc, drop-set-lt}
use Rattle.output.specs.Page.{Page, page_at, put_byte, put_on}
use Rattle.output.specs.Theorems.{PutWhole}

-- some, and others after them
both : (some others : List ℕ) (page : Page) → put_on page (some ++ others) ≡ put_on (put_on page some) others
unfolding put_on
both [] others page = refl
both (byte ∷ some) others page = both some others _

-- put in two parts
pub put_both : (page : Page) (some others : List ℕ) {mid after : Page} → mid ≡ put_on page some → after ≡ put_on mid others
    → after ≡ put_on page (some ++ others)
put_both page some others first second = second ∙ ap (λ (p : Page). put_on p others) first ∙ sym (both some others page)

-- one byte more
pub put_one : (page : Page) (bytes : List ℕ) (i : ℕ) {byte : ℕ} {mid after : Page} → mid ≡ put_on page (take i bytes) → i < length bytes
    → byte ≡ get_or bytes i 0 → after ≡ put_on mid (byte ∷ []) → after ≡ put_on page (take (i + 1) bytes)
put_one page bytes i before more here put = rw (add-one i, take-suc bytes i 0, ← here) (put_both page (take i bytes) (_ ∷ []) before put)

pub put_whole : PutWhole
unfolding put_on
put_whole page [] place room =
    let none : place + 0 ≡ place = omega arith in rw (none, append-nil (take place page), take-append-drop place page)
put_whole page (byte ∷ text) place room =
    let next : place + 1 + length text ≡ place + suc (length text) = omega arith in
    rw (lt-ltb place (length page) (omega arith))
    (put_whole (set page place byte) text (place + 1) (rw (length-set page place byte) (omega arith))
    ∙ rw (
      next,
      add-one place,
      take-suc-set page place byte (omega arith),
      append_snoc (take place page) byte text,
      drop-set-lt (place + suc (length text)) page place byte (omega arith),
    ))

-- no place past the page's end is reached
pub put_within : (page : Page) (text : List ℕ) → page.place ≤ length page.bytes
    → (put_on page text).place ≤ length (put_on page text).bytes
unfolding put_on
put_within page [] h = h
put_within page (byte ∷ text) h = put_within (put_byte page byte) text (by (ltb page.place (length page.bytes)) refl)
  where
    by : (b : Bool) → ltb page.place (length page.bytes) ≡ b
        → (cond b (page_at (set page.bytes page.place byte) (page.place + 1)) page).place
        ≤ length (cond b (page_at (set page.bytes page.place byte) (page.place + 1)) page).bytes
    by true e = rw (length-set page.bytes page.place byte) (omega (arith, ltb-true page.place (length page.bytes) e))
    by false e = h
