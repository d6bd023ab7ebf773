mod Before
mod Drafts
mod Stepping
mod Staging
mod Listing
mod Only
mod Rows
