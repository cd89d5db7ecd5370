mod ArgumentLemmas
mod FitsLemmas
mod LineLemmas
mod NumberLemmas
mod PlacesLemmas
mod RowLemmas
mod ShapeLemmas
