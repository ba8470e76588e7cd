use Rattle.text.proofs.Stores.{next}
use Rattle.sheet_lines.proofs.put_item.Goals as goal

pub returns : goal.returns
returns c =
    let number = c in
    let to_number = number in
    next to_number.put_text-at.ensures number.put_padded.ensures
